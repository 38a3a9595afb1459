-- How the functions below a model carry its run on. No clause of a public function cites these.
use Rattle.std.specs.Prelude.{List, [], ◌∷◌, Result, Ok, Err, Option, None, Some}
use Rattle.asset_names.specs.declared.names.Txn.{Txn}
use Rattle.asset_names.specs.declared.steps.Step.{Step}
use Rattle.asset_names.specs.declared.replies.Fault.{Fault}
use Rattle.asset_names.specs.Steps.{Entry}
use Rattle.asset_models.specs.declared.parts.Cut.{Cut}
use Rattle.asset_models.specs.declared.parts.Cut.TheVariants as Cut'
use Rattle.asset_models.specs.declared.parts.ModelEnd.{ModelEnd}
use Rattle.asset_models.specs.declared.parts.ModelEnd.TheVariants as End'
use Rattle.asset_models.specs.declared.parts.Part.{Part}
use Rattle.asset_models.specs.declared.single.Settled.{Settled}
use Rattle.asset_models.specs.declared.single.Settled.TheVariants as Settled'
use Rattle.asset_models.specs.Courses.{Course, IsRun, undo_course}

-- from the new calls on, each run of the rest is a run of the course from the old ones
pub record Follows (course : Course) (old : List Entry) (rest : Course) (new : List Entry) : Type 0 where
  pub goes : (last : List Entry) (result : Result ModelEnd Fault) → IsRun rest new last result → IsRun course old last result

-- how a model ends that is cut short
unfoldable pub cut_end : Cut → Result ModelEnd Fault
cut_end (Cut'.Waited step) = Ok (End'.Stopped step)
cut_end (Cut'.Refused step) = Ok (End'.Refused step)
cut_end (Cut'.Failed fault) = Err fault

-- how a model ends, that may have been cut short
unfoldable pub model_end : Result ModelEnd Cut → Result ModelEnd Fault
model_end (Ok end) = Ok end
model_end (Err cut) = cut_end cut

-- the course after one transaction has settled
unfoldable pub settled_course : Settled → Course → (Step → Course) → Course
settled_course Settled'.Committed committed aborted = committed
settled_course (Settled'.Aborted step) committed aborted = aborted step

-- what comes after acts, if that of a transaction failed and if none did
unfoldable pub after_acts : Option Txn → Course → (Txn → Course) → Course
after_acts None next failed = next
after_acts (Some t) next failed = failed t

-- what undoes these pairs, the last first, and then the ones before
unfoldable pub undone : Course → List (Part × Part) → Course
undone undo [] = undo
undone undo (pair ∷ pairs) = undone (undo_course pair.1 undo) pairs
