use Rattle.std.proofs.Common.{length, map}
use Rattle.asset_names.specs.declared.steps.Step.TheVariants.{Complete}
use Rattle.asset_models.specs.declared.parts.Part.{Part}
use Rattle.asset_models.specs.Courses.{Course, must_each_course}
use Rattle.asset_models.specs.Follows.{Follows}
use Rattle.asset_models.proofs.together.complete_each.Given as goal

-- the parts so far lead to those that are left
abbrev pub invariant-parts : goal.invariant-parts
invariant-parts g l = (next : Course) → Follows (must_each_course (map (λ (q : Part). Complete q.name) l.parts) next) (g.A.Asset.calls l.fn.asset) (must_each_course (map (λ (q : Part). Complete q.name) l.left) next) (g.A.Asset.calls l.asset)

abbrev pub decreases-parts : goal.decreases-parts
decreases-parts g l = length l.left
