-- The recorded calls of a session.
use Rattle.std.specs.Prelude.{◌≡◌, ℕ, List, [], ◌∷◌, ◌++◌, Result, Ok, Err}
use Rattle.asset_names.specs.declared.steps.Step.{Step}
use Rattle.asset_names.specs.declared.replies.Reply.{Reply}
use Rattle.asset_names.specs.declared.replies.Outcome.{Outcome}
use Rattle.asset_names.specs.declared.replies.Outcome.TheVariants.{Answer, Wait}
use Rattle.asset_names.specs.declared.replies.Fault.{Fault}
use Rattle.asset_audit.specs.Audited.{Call}

-- the calls, oldest first, and for how many there is room in all
pub record Listed : Type 0 where
  pub calls : List Call
  pub room : ℕ

-- the list with one more call, of the entry with this number
abbrev pub with_call : Listed → ℕ → Step → Reply → Listed
with_call list number step reply = record { calls = list.calls ++ (number, step, reply) ∷ []; room = list.room }

-- the calls after a step that was asked at a history with this number of entries: a reply is one more, of the entry
-- with that number, and a wait or a fault is none
abbrev pub Lists : ℕ → List Call → Step → Result Outcome Fault → List Call → Type 0
Lists number before step (Ok (Answer reply)) later = later ≡ before ++ (number, step, reply) ∷ []
Lists number before step (Ok Wait) later = later ≡ before
Lists number before step (Err fault) later = later ≡ before

-- the same, of an entry with some number
abbrev pub IsListed : List Call → Step → Result Outcome Fault → List Call → Type 0
IsListed before step (Ok (Answer reply)) later = (number : ℕ) × (later ≡ before ++ (number, step, reply) ∷ [])
IsListed before step (Ok Wait) later = later ≡ before
IsListed before step (Err fault) later = later ≡ before
