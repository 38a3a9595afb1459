use Rattle.std.proofs.Common.{◌≤◌, take}
use Rattle.asset_models.specs.declared.parts.ModelEnd.TheVariants.{Undone}
use Rattle.asset_models.specs.Courses.Course.{ends}
use Rattle.asset_models.specs.Follows.{Follows, undone}
use Rattle.asset_models.proofs.sagas.undo.Given as goal

-- what undoes the pairs leads to what undoes those that are left
abbrev pub invariant-undo : goal.invariant-undo
invariant-undo g l = record {
  count : l.left ≤ l.count;
  undoes : Follows (undone (ends Undone) (take l.count l.pairs)) (g.A.Asset.calls l.fn.asset) (undone (ends Undone) (take l.left l.pairs)) (g.A.Asset.calls l.asset);
}

abbrev pub decreases-undo : goal.decreases-undo
decreases-undo g l = l.left
