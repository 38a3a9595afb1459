use Rattle.std.proofs.Common.{length}
use Rattle.asset_models.specs.Courses.{Course, children_course}
use Rattle.asset_models.specs.Follows.{Follows}
use Rattle.asset_models.proofs.nesting.run_children.Given as goal

-- the children so far lead to those that are left
abbrev pub invariant-children : goal.invariant-children
invariant-children g l = (next : Course) → Follows (children_course l.t l.children next) (g.A.Asset.calls l.fn.asset) (children_course l.t l.left next) (g.A.Asset.calls l.asset)

abbrev pub decreases-children : goal.decreases-children
decreases-children g l = length l.left
