-- Each job that was put stands once, in the queue or as taken by one pass.
use Rattle.std.specs.Prelude.{◌≡◌, ◌≤◌, ℕ, ◌+◌, List, [], ◌∷◌, map}
use mathlib.Core.Option.{some}
use lib.ListN.{get_elem?}
use Rattle.asset_queue.specs.declared.rule.Hand.{Hand}
use Rattle.asset_queue.specs.Each.{Each}

-- the place of a job in the order in which jobs were made, and its name
abbrev pub Ticket : Type 0
Ticket = ℕ × ℕ

-- a pass with so many parts, and with the tickets of what it has put and of what it has taken
abbrev pub hand : ℕ → List Ticket → List Ticket → Hand
hand parts put taken = record { parts = parts; put = put; taken = taken }

-- the weights of the tickets, added up
abbrev pub weigh : (Ticket → ℕ) → List Ticket → ℕ
weigh h [] = 0
weigh h (x ∷ xs) = h x + weigh h xs

-- what f gives for each pass, added up
abbrev pub total : (Hand → ℕ) → List Hand → ℕ
total f [] = 0
total f (v ∷ vs) = f v + total f vs

-- a pass without a part has put and taken nothing
abbrev pub IdleIsEmpty : List Hand → Type 0
IdleIsEmpty views = (port : ℕ) (v : Hand) → get_elem? views port ≡ some v → v.parts ≡ 0 → (v.put ≡ []) × (v.taken ≡ [])

-- The rule: the passes have 128 parts in all, and a pass without a part has put and taken nothing. However tickets are
-- weighed, what all passes have put weighs as much as what they have taken and what the queue holds: so each ticket was put
-- as often as it was taken or is held.
pub record Balanced (items : List Ticket) (views : List Hand) : Type 0 where
  pub parts : total (λ v. v.parts) views ≡ 128
  pub even : (h : Ticket → ℕ) → total (λ v. weigh h v.put) views ≡ total (λ v. weigh h v.taken) views + weigh h items
  pub idle : IdleIsEmpty views

-- each ticket stands in the first list as often as in the other two together
abbrev pub SharedOut : List Ticket → List Ticket → List Ticket → Type 0
SharedOut put taken left = (h : Ticket → ℕ) → weigh h put ≡ weigh h taken + weigh h left

-- a pass with all parts knows that what it put is what it took and what is left
abbrev pub Accounts : Hand → List Ticket → Type 0
Accounts v left = v.parts ≡ 128 → SharedOut v.put v.taken left

-- a pass with all parts has taken no more than it put
abbrev pub Within : Hand → Type 0
Within v = v.parts ≡ 128 → (h : Ticket → ℕ) → weigh h v.taken ≤ weigh h v.put

-- the rule over jobs, each by its ticket; and each is one of those that may be there
abbrev pub Holds : {J : Type 0} → (J → Ticket) → (J → Type 0) → List J → List Hand → Type 0
Holds ticket from jobs views = Balanced (map ticket jobs) views × Each from jobs
