-- What an audit answers.
use Rattle.std.specs.Prelude.{◌≡◌, ◌≢◌, ℕ, ◌<◌, ◌+◌, List, [], ◌∷◌, Some, Result, Ok, Err, length, take, slice_get}
use Rattle.asset_names.specs.declared.steps.Step.{Step}
use Rattle.asset_names.specs.declared.replies.Reply.{Reply}
use Rattle.asset_names.specs.Steps.{Entry}
use Rattle.asset_audit.specs.declared.auditing.AuditFault.{AuditFault}
use Rattle.asset_audit.specs.declared.auditing.AuditFault.TheVariants.{Differs, Missing}

-- a call that was recorded for a session: the number of its entry, the step and the reply
abbrev pub Call : Type 0
Call = ℕ × Step × Reply

-- the list has a call of this number
abbrev pub HasNumber : List Call → ℕ → Type 0
HasNumber l n = (k : ℕ) × (c : Call) × (slice_get l k ≡ Some c) × (c.0 ≡ n)

-- the numbers rise
abbrev pub Rises : List Call → Type 0
Rises l = (i j : ℕ) (a b : Call) → i < j → slice_get l i ≡ Some a → slice_get l j ≡ Some b → a.0 < b.0

-- in each list the numbers rise
abbrev pub AllRise : List (List Call) → Type 0
AllRise ss = (i : ℕ) (l : List Call) → slice_get ss i ≡ Some l → Rises l

-- some list has a call of this number
abbrev pub AnyHas : List (List Call) → ℕ → Type 0
AnyHas ss n = (i : ℕ) × (l : List Call) × (slice_get ss i ≡ Some l) × HasNumber l n

-- the number is above all of these
abbrev pub IsAbove : List Call → ℕ → Type 0
IsAbove l n = (k : ℕ) (b : Call) → slice_get l k ≡ Some b → b.0 < n

-- A call is good after those before it in its list, and after the lists of earlier sessions: its number is above the numbers
-- before it in its list, the entry of that number is its step with its reply, and no earlier session has the number.
pub record IsGood (log : List Entry) (earlier : List (List Call)) (before : List Call) (c : Call) : Type 0 where
  pub rises : IsAbove before c.0
  pub entry : slice_get log c.0 ≡ Some (c.1, c.2)
  pub fresh : ¬ AnyHas earlier c.0

-- the first n calls of a list are good
abbrev pub AreGoodBelow : List Entry → List (List Call) → List Call → ℕ → Type 0
AreGoodBelow log earlier l n = (k : ℕ) (c : Call) → k < n → slice_get l k ≡ Some c → IsGood log earlier (take k l) c

-- the first call of a list that is not good has this number
pub record IsFirstWrong (log : List Entry) (earlier : List (List Call)) (l : List Call) (number : ℕ) : Type 0 where
  pub place : ℕ
  pub call : Call
  pub at_place : slice_get l place ≡ Some call
  pub numbered : call.0 ≡ number
  pub wrong : ¬ IsGood log earlier (take place l) call
  pub calls : AreGoodBelow log earlier l place

-- all calls of the first n sessions are good
abbrev pub ListsAreGood : List Entry → List (List Call) → ℕ → Type 0
ListsAreGood log ss n = (i : ℕ) (l : List Call) → i < n → slice_get ss i ≡ Some l → AreGoodBelow log (take i ss) l (length l)

-- the first call that is not good is of this session and has this number
pub record IsFirstDifference (log : List Entry) (ss : List (List Call)) (session number : ℕ) : Type 0 where
  pub list : List Call
  pub in_session : slice_get ss session ≡ Some list
  pub first : IsFirstWrong log (take session ss) list number
  pub sessions : ListsAreGood log ss session

-- how many calls the lists have
abbrev pub told_by : List (List Call) → ℕ
told_by [] = 0
told_by (l ∷ ls) = length l + told_by ls

-- This is the audit of the lists against a history, oldest entry first. It is fine if all calls are good and there are as many
-- as entries. Else it names the first call that is not good, by its session and its number; or all calls are good, and there
-- are not as many as entries.
abbrev pub IsAudit : List Entry → List (List Call) → Result (Unit {0}) AuditFault → Type 0
IsAudit log ss (Ok u) = ListsAreGood log ss (length ss) × (told_by ss ≡ length log)
IsAudit log ss (Err (Differs s n)) = IsFirstDifference log ss s n
IsAudit log ss (Err (Missing told kept)) = ListsAreGood log ss (length ss) × (told ≡ told_by ss) × (kept ≡ length log) × (told ≢ kept)

-- each entry is that of a call
abbrev pub HasEach : List Entry → List (List Call) → Type 0
HasEach log ss = (n : ℕ) → n < length log → AnyHas ss n
