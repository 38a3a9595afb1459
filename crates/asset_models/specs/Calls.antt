-- Recorded calls.
use Rattle.std.specs.Prelude.{List, ◌∷◌, Result, Ok, Err}
use Rattle.asset_names.specs.declared.steps.Step.{Step}
use Rattle.asset_names.specs.declared.replies.Outcome.{Outcome}
use Rattle.asset_names.specs.declared.replies.Outcome.TheVariants.{Answer, Wait}
use Rattle.asset_names.specs.declared.replies.Fault.{Fault}
use Rattle.asset_names.specs.Steps.{Entry}
use Rattle.asset_core.specs.Pending.{Facility}

-- the recorded calls, newest first, after a step: an answer is recorded with its step, a wait and a fault are not
unfoldable pub called : List Entry → Step → Result Outcome Fault → List Entry
called calls step (Ok (Answer reply)) = (step, reply) ∷ calls
called calls step (Ok Wait) = calls
called calls step (Err fault) = calls

-- the recorded calls of a facility: the entries of its history
unfoldable pub calls_of : Facility → List Entry
calls_of facility = facility.history.entries
