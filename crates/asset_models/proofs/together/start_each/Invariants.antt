use Rattle.std.proofs.Common.{length, flat_map}
use Rattle.asset_models.specs.declared.parts.Part.{Part}
use Rattle.asset_models.specs.Courses.{Course, must_each_course, starts}
use Rattle.asset_models.specs.Follows.{Follows}
use Rattle.asset_models.proofs.together.start_each.Given as goal

-- the parts so far lead to those that are left
abbrev pub invariant-parts : goal.invariant-parts
invariant-parts g l = (next : Course) → Follows (must_each_course (flat_map (λ (q : Part). starts q.name) l.parts) next) (g.A.Asset.calls l.fn.asset) (must_each_course (flat_map (λ (q : Part). starts q.name) l.left) next) (g.A.Asset.calls l.asset)

abbrev pub decreases-parts : goal.decreases-parts
decreases-parts g l = length l.left
