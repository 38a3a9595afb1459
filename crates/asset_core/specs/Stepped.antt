-- What asking for one step does to a facility.
use Rattle.std.specs.Prelude.{◌≡◌, ◌↔◌, true, false, Result, Ok, IfOk, OnErr, IsOk, IsErrOf}
use Rattle.asset_names.specs.declared.steps.Step.{Step}
use Rattle.asset_names.specs.declared.replies.Outcome.{Outcome}
use Rattle.asset_names.specs.declared.replies.Outcome.TheVariants.{Wait}
use Rattle.asset_names.specs.declared.replies.Fault.{Fault}
use Rattle.asset_names.specs.declared.replies.Fault.TheVariants.{Full, NoMemory}
use Rattle.asset_names.specs.Answers.{takes_memory, outcome_takes_effect}
use Rattle.asset_names.specs.Sources.{is_operation}
use Rattle.asset_entries.specs.Recorded.{answer_to, after, has_room, is_ending}
use Rattle.asset_core.specs.Pending.{Facility, pending_after}

-- The outcome is the answer to the step. A reply is one entry more, and a wait is none; pending requests change as
-- `pending_after` says, and a wait of a step that is no read, write or add changes nothing. The answer is Full exactly if there
-- is no room. NoMemory comes only if a step that may need memory takes effect. An ending that changes a status meets
-- neither. After a fault nothing has changed.
pub record IsStep (before : Facility) (step : Step) (result : Result Outcome Fault) (later : Facility) : Type 0 where
  pub answered : IfOk result (λ outcome. outcome ≡ answer_to before.history step)
  pub grown : IfOk result (λ outcome. later.history ≡ after before.history step outcome)
  pub pending : IfOk result (λ outcome. later.pending ≡ pending_after before step outcome)
  pub still : result ≡ Ok Wait → is_operation step ≡ false → later ≡ before
  pub full : IsErrOf result Full ↔ (has_room before.history step (answer_to before.history step) ≡ false)
  pub memory : IsErrOf result NoMemory → (takes_memory step ≡ true) × (outcome_takes_effect step (answer_to before.history step) ≡ true)
  pub ending : is_ending before.history step (answer_to before.history step) ≡ true → IsOk result
  pub fault : OnErr result (later ≡ before)
