-- A history in which each write writes the number of its entry and each add adds 0, so that each read reads the number of its
-- source.
use Rattle.std.specs.Prelude.{◌≡◌, ℕ, suc, ℤ, pos, List, [], ◌∷◌, length, map, Option, None, Some}
use Rattle.asset_names.specs.declared.names.Txn.{Txn}
use Rattle.asset_names.specs.declared.names.Ob.{Ob}
use Rattle.asset_names.specs.declared.steps.Step.{Step}
use Rattle.asset_names.specs.declared.steps.Step.TheVariants.{Read, Write, Add}
use Rattle.asset_names.specs.declared.replies.Reply.{Reply}
use Rattle.asset_names.specs.declared.replies.Reply.TheVariants.{Done, Value}
use Rattle.asset_names.specs.declared.replies.Outcome.{Outcome}
use Rattle.asset_names.specs.declared.replies.Outcome.TheVariants.{Answer, Wait}
use Rattle.asset_names.specs.Steps.{Opening, Entry}
use Rattle.asset_names.specs.Operations.{writes, adds}
use Rattle.asset_names.specs.Sources.{Numbered, entry_at, source}

-- the number of a source, counted from 1; 0 is the opening
unfoldable pub source_number : Option Numbered → ℤ
source_number None = pos 0
source_number (Some found) = pos (suc found.0)

-- the step with this number, from 0: a write writes its number, counted from 1, and an add adds 0
unfoldable pub writing : ℕ → Step → Step
writing n (Write t x v) = Write t x (pos (suc n))
writing n (Add t x d) = Add t x (pos 0)
writing n step = step

-- the reply to a step after the older entries: a read reads the number of its source
unfoldable pub reading : List Entry → Step → Reply → Reply
reading older (Read t x) (Value v) = Value (source_number (source older x.0))
reading older step reply = reply

-- the outcome of a step after the older entries: a read that is answered reads the number of its source
unfoldable pub outcome_read : List Entry → Step → Outcome → Outcome
outcome_read older step (Answer reply) = Answer (reading older step reply)
outcome_read older step Wait = Wait

-- the entries with numbers in place of values
unfoldable pub renumbered : List Entry → List Entry
renumbered [] = []
renumbered (entry ∷ older) = (writing (length older) entry.0, reading older entry.0 entry.1) ∷ renumbered older

-- the opening with 0 in place of each value
unfoldable pub zeroed : Opening → Opening
zeroed opening = map (λ (given : Ob × ℤ). (given.0, pos 0)) opening

-- the entry of a source of x is a write on x, of the value that the source gives
abbrev pub IsWrittenOn : List Entry → ℕ → Numbered → Type 0
IsWrittenOn entries x found = (t : Txn) × (y : Ob) × (v : ℤ) × (entry_at entries found.0 ≡ Some (Write t y v, Done)) × (y.0 ≡ x) × (found.1.use_of ≡ writes v)

-- the entry of each of the adds is an add on x, of what the add adds
unfoldable pub AreAddedOn : List Entry → ℕ → List Numbered → Type 0
AreAddedOn entries x [] = Unit {0}
AreAddedOn entries x (found ∷ older) = ((t : Txn) × (y : Ob) × (d : ℤ) × (entry_at entries found.0 ≡ Some (Add t y d, Done)) × (y.0 ≡ x) × (found.1.use_of ≡ adds d)) × AreAddedOn entries x older
