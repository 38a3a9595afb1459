use Rattle.std.proofs.Common.{take, drop}
use Rattle.asset_models.specs.declared.parts.ModelEnd.TheVariants.{Undone}
use Rattle.asset_models.specs.Courses.Course.{ends}
use Rattle.asset_models.specs.Courses.{saga_course, saga_from}
use Rattle.asset_models.specs.Follows.{Follows, undone}
use Rattle.asset_models.proofs.sagas.saga.Given as goal

-- the pairs so far lead to those that are left, over what undoes them
abbrev pub invariant-loop-i : goal.invariant-loop-i
invariant-loop-i g l = Follows (saga_course l.pairs) (g.A.Asset.calls l.fn.asset) (saga_from (drop l.i l.pairs) (undone (ends Undone) (take l.i l.pairs))) (g.A.Asset.calls l.asset)
