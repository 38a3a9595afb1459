-- What comes back from the workers.
use Rattle.std.specs.Prelude.{◌≡◌, ℕ, ⊤, true, false, List, [], ◌∷◌, length, map, Option, Some, MatchOption, slice_get}
use Rattle.std.specs.declared.dyn_box.DynBox.{DynBox}
use Rattle.std.specs.declared.alloc.Global.{Global}
use Rattle.atomic_table.specs.Seated.{TableId}
use Rattle.asset_names.specs.declared.names.Txn.{Txn}
use Rattle.asset_audit.specs.Audited.{Call}
use Rattle.asset_manager.specs.Asker.{Asker}
use Rattle.asset_bodies.specs.Working.{Working, Worked}
use Rattle.asset_queue.specs.Once.{Ticket}
use Rattle.asset_runner.specs.declared.arrival.Arrival.{Arrival}
use Rattle.asset_runner.specs.declared.arrival.Fate.TheVariants.{Left}
use Rattle.asset_runner.specs.Runs.{JobRun}
use Rattle.asset_runner.specs.Fates.{answered_by, body_of, waits_by, AsksBegin, AsksCommit, CallsSoFar}
use Rattle.asset_runner.specs.Placing as placing

-- the tickets of jobs of these names, in order
abbrev pub numbered : List Txn → List Ticket
numbered names = placing.numbered 0 (map (λ (t : Txn). t.0) names)

module _ {X : Type 0} {B : X → Type 0} where
  -- its place in the order of initiation, and its name
  abbrev pub ticket_of : Arrival X B → Ticket
  ticket_of a = (a.place, a.name.0)

  -- what came of the job, without its place and its body
  abbrev pub run_of : Arrival X B → JobRun
  run_of a = record { name = a.name; answered = answered_by a.fate; calls = a.returned.list.calls }

  -- what a worker does with a job of this name and manager, after these calls of its session: its begin is not answered `Done`, and it
  -- is left; or its body is called
  abbrev pub DoesJob : (Working → Worked → Type 0) → Txn → TableId → List Call → Arrival X B → Type 0
  DoesJob post name manager before a = MatchOption (answered_by a.fate) (AsksBegin name before a.returned.list.calls) (CallsSoFar post name manager before a.returned.list.calls (waits_by a.fate))

  -- a job whose body was not called, with its session
  abbrev pub left_at : ℕ → Txn → DynBox X Global B → Asker → Arrival X B
  left_at place t body session = record { place = place; name = t; fate = Left body; returned = session }

  -- the same job, whose commit may have been asked again if it waits
  pub record GoesOn (before later : Arrival X B) : Type 0 where
    pub place : later.place ≡ before.place
    pub name : later.name ≡ before.name
    pub answered : answered_by later.fate ≡ answered_by before.fate
    pub body : body_of later.fate ≡ body_of before.fate
    pub calls : (u : Txn) → answered_by before.fate ≡ Some u → AsksCommit u before.returned.list.calls later.returned.list.calls
    pub waiting : waits_by later.fate ≡ true → later.returned.list.calls ≡ before.returned.list.calls
    pub settled : waits_by before.fate ≡ false → (waits_by later.fate ≡ false) × (later.returned.list.calls ≡ before.returned.list.calls)

  -- the same jobs, in the same order
  abbrev pub AllGoOn : List (Arrival X B) → List (Arrival X B) → Type 0
  AllGoOn [] [] = ⊤
  AllGoOn (x ∷ xs) (y ∷ ys) = GoesOn x y × AllGoOn xs ys
  AllGoOn xs ys = ⊥

  -- each is put into its place, the last one first
  abbrev pub placed : List (Option (Arrival X B)) → List (Arrival X B) → List (Option (Arrival X B))
  placed slots all = placing.placed (λ (a : Arrival X B). a.place) slots all

  -- there are so many, and each stands in its place
  abbrev pub StandInOrder : List (Arrival X B) → ℕ → Type 0
  StandInOrder row jobs = (length row ≡ jobs) × ((i : ℕ) (a : Arrival X B) → slice_get row i ≡ Some a → a.place ≡ i)
