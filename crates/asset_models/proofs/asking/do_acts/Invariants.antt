use Rattle.std.proofs.Common.{length}
use Rattle.asset_names.specs.declared.names.Txn.{Txn}
use Rattle.asset_models.specs.Courses.{Course, acts_course, acts_of}
use Rattle.asset_models.specs.Follows.{Follows}
use Rattle.asset_models.proofs.asking.do_acts.Given as goal

-- the acts so far lead to those that are left
abbrev pub invariant-acts : goal.invariant-acts
invariant-acts g l = (next : Course) (failed : Txn → Course) → Follows (acts_course (acts_of l.t l.acts) next failed) (g.A.Asset.calls l.fn.asset) (acts_course (acts_of l.t l.left) next failed) (g.A.Asset.calls l.asset)

abbrev pub decreases-acts : goal.decreases-acts
decreases-acts g l = length l.left
