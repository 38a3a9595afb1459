use Rattle.asset_models.specs.Courses.{atomic_course}
use Rattle.asset_models.specs.Follows.{settled_course}
use Rattle.asset_models.specs.declared.parts.ModelEnd.TheVariants as End'
use Rattle.asset_models.specs.Courses.Course.{ends}
use Rattle.asset_models.proofs.RunLemmas.{ended}
use Rattle.asset_models.proofs.single.atomic.Goals as goal

pub returns-in-Ok-Committed : goal.returns-in-Ok-Committed
unfolding atomic_course settled_course
returns-in-Ok-Committed g c = (rw c.in-Ok-Committed.field-0-is at (c.in-Ok-Committed.ensures.follows (ends End'.Committed) (λ step. ends End'.Aborted))).goes _ _ (ended _ _)

pub returns-in-Ok-Aborted : goal.returns-in-Ok-Aborted
unfolding atomic_course settled_course
returns-in-Ok-Aborted g c = (rw c.in-Ok-Aborted.field-0-is at (c.in-Ok-Aborted.ensures.follows (ends End'.Committed) (λ step. ends End'.Aborted))).goes _ _ (ended _ _)

pub returns-in-Err : goal.returns-in-Err
unfolding atomic_course
returns-in-Err g c = rw c.end.ensures (c.in-Err.ensures.cut _ _)
