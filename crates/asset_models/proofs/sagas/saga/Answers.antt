use Rattle.asset_models.specs.Courses.{saga_course}
use Rattle.asset_models.specs.Follows.{undone}
use Rattle.asset_models.proofs.RunLemmas.{stays, then, then_run}
use Rattle.asset_models.proofs.SagaLemmas.{first_committed, first_aborted, first_cut, all_committed}
use Rattle.asset_models.proofs.sagas.saga.Goals as goal

pub loop-i-init : goal.loop-i-init
unfolding saga_course undone
loop-i-init g c = stays _ _

pub returns-in-Ok-Aborted : goal.returns-in-Ok-Aborted
returns-in-Ok-Aborted g c = then_run c.loop-i.invariant _ _ (then_run (first_aborted _ _ _ c.loop-i-test.true c.index-pairs-i.is _ _ _ c.in-Ok-Aborted.field-0-is _ _ c.in-Ok-Aborted.ensures.follows) _ _ c.undo.ensures)

pub returns-in-Err : goal.returns-in-Err
returns-in-Err g c = rw c.end.ensures (then_run c.loop-i.invariant _ _ (first_cut _ _ _ c.loop-i-test.true c.index-pairs-i.is _ _ _ _ c.in-Err.ensures.cut))

pub loop-i-preserved : goal.loop-i-preserved
loop-i-preserved g c = then c.loop-i.invariant (first_committed _ _ _ c.loop-i-test.true c.index-pairs-i.is _ _ c.in-Ok-Committed.field-0-is _ _ c.in-Ok-Committed.ensures.follows)

pub returns : goal.returns
returns g c = then_run c.loop-i.invariant _ _ (all_committed _ _ c.loop-i-test.false _ _)
