use Rattle.std.proofs.Common.{length, flat_map}
use Rattle.asset_names.specs.declared.names.Txn.{Txn}
use Rattle.asset_models.specs.declared.parts.Part.{Part}
use Rattle.asset_models.specs.Courses.{Course, acts_course, acts_of}
use Rattle.asset_models.specs.Follows.{Follows}
use Rattle.asset_models.proofs.together.do_each.Given as goal

-- the parts so far lead to those that are left
abbrev pub invariant-parts : goal.invariant-parts
invariant-parts g l = (next : Course) (failed : Txn → Course) → Follows (acts_course (flat_map (λ (q : Part). acts_of q.name q.acts.items) l.parts) next failed) (g.A.Asset.calls l.fn.asset) (acts_course (flat_map (λ (q : Part). acts_of q.name q.acts.items) l.left) next failed) (g.A.Asset.calls l.asset)

abbrev pub decreases-parts : goal.decreases-parts
decreases-parts g l = length l.left
