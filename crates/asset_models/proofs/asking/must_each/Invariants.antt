use Rattle.std.proofs.Common.{length}
use Rattle.asset_models.specs.Courses.{Course, must_each_course}
use Rattle.asset_models.specs.Follows.{Follows}
use Rattle.asset_models.proofs.asking.must_each.Given as goal

-- the steps so far lead to those that are left
abbrev pub invariant-steps : goal.invariant-steps
invariant-steps g l = (next : Course) → Follows (must_each_course l.steps next) (g.A.Asset.calls l.fn.asset) (must_each_course l.left next) (g.A.Asset.calls l.asset)

abbrev pub decreases-steps : goal.decreases-steps
decreases-steps g l = length l.left
