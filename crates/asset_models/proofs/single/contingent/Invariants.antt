use Rattle.std.proofs.Common.{length}
use Rattle.asset_models.specs.Courses.{contingent_course}
use Rattle.asset_models.specs.Follows.{Follows}
use Rattle.asset_models.proofs.single.contingent.Given as goal

-- the parts so far lead to those that are left
abbrev pub invariant-parts : goal.invariant-parts
invariant-parts g l = Follows (contingent_course l.parts) (g.A.Asset.calls l.fn.asset) (contingent_course l.left) (g.A.Asset.calls l.asset)

abbrev pub decreases-parts : goal.decreases-parts
decreases-parts g l = length l.left
