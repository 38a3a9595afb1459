-- What asking a step comes to that is answered while it takes effect.
use Rattle.std.specs.Prelude.{◌≡◌, true, cond}
use Rattle.asset_names.specs.declared.steps.Step.{Step}
use Rattle.asset_names.specs.declared.replies.Reply.{Reply}
use Rattle.asset_names.specs.declared.replies.Outcome.{Outcome}
use Rattle.asset_names.specs.declared.replies.Outcome.TheVariants.{Answer, Wait}
use Rattle.asset_names.specs.Steps.{takes_effect}
use Rattle.asset_names.specs.Answers.{answer, takes_memory}
use Rattle.asset_locks.specs.LockTable as Locks
use Rattle.asset_steps.specs.Ready.{locks_after, locks_waiting}
use Rattle.asset_ends.specs.Shown.{ForShown, ShowsStill, ShowsEntry}
use Rattle.asset_ends.specs.Standing.{Standing, SameViewInAnyOrder}

-- the tables show their history with the entry of a reply, and as it was after a wait
unfoldable pub ShowsOutcome : Standing → Step → Outcome → Standing → Type 0
ShowsOutcome before step (Answer reply) later = ShowsEntry before (step, reply) later
ShowsOutcome before step Wait later = ShowsStill before later

-- the locks after an outcome: those after the step, if it takes effect, or with its request pending, if it waits
unfoldable pub locks_with : Step → Outcome → Standing → Locks.LockTable
locks_with step (Answer reply) tables = cond (takes_effect step reply) (locks_after step tables) tables.locks
locks_with step Wait tables = locks_waiting step tables

-- the outcome is the answer to the step, which has taken effect, or is pending, accordingly
pub record Stepped (before : Standing) (step : Step) (outcome : Outcome) (later : Standing) : Type 0 where
  pub answered : ForShown before (λ opening steps. outcome ≡ answer opening steps step)
  pub stands : ShowsOutcome before step outcome later
  pub locks : later.locks ≡ locks_with step outcome before

-- the step may need memory and would take effect, but memory ran out, and the tables show what they did before
pub record Lacked (before : Standing) (step : Step) (later : Standing) : Type 0 where
  pub reply : Reply
  pub memory : takes_memory step ≡ true
  pub effect : takes_effect step reply ≡ true
  pub answered : ForShown before (λ opening steps. answer opening steps step ≡ Answer reply)
  pub same : SameViewInAnyOrder later before
