use Rattle.std.proofs.Common.{length}
use Rattle.asset_names.specs.declared.names.Txn.{Txn}
use Rattle.asset_models.specs.Courses.{Course, acts_course, turns}
use Rattle.asset_models.specs.Follows.{Follows}
use Rattle.asset_models.proofs.cooperation.in_turn.Given as goal

-- the acts so far lead to those that are left
abbrev pub invariant-turns : goal.invariant-turns
invariant-turns g l = (next : Course) (failed : Txn → Course) → Follows (acts_course (turns l.t l.u l.acts l.others) next failed) (g.A.Asset.calls l.fn.asset) (acts_course (turns l.t l.u l.left l.right) next failed) (g.A.Asset.calls l.asset)

abbrev pub decreases-turns : goal.decreases-turns
decreases-turns g l = length l.left
