use Rattle.std.proofs.Common.{◌-◌, get_or, ap, arith}
use Rattle.asset_models.specs.declared.parts.Part.{Part}
use Rattle.asset_models.proofs.RunLemmas.{then, then_run}
use Rattle.asset_models.proofs.SagaLemmas.{second_committed, second_aborted, second_cut, none_to_undo}
use Rattle.asset_models.proofs.sagas.undo.Goals as goal

pub undo-preserved : goal.undo-preserved
undo-preserved g c =
    record {
      count = omega arith;
      undoes = then c.undo.invariant.undoes (second_committed _ _ _ c.undo-test.true (omega (arith, c.requires)) (ap (λ (pair : Part × Part). get_or c.args.pairs.now (c.undo.left - 1) pair) c.index-pairs-last.is) _ _ c.in-Ok-Committed.field-0-is _ _ c.in-Ok-Committed.ensures.follows);
    }

pub returns-in-Ok-Aborted : goal.returns-in-Ok-Aborted
returns-in-Ok-Aborted g c = then_run c.undo.invariant.undoes _ _ (second_aborted _ _ _ c.undo-test.true (omega (arith, c.requires)) (ap (λ (pair : Part × Part). get_or c.args.pairs.now (c.undo.left - 1) pair) c.index-pairs-last.is) _ _ _ c.in-Ok-Aborted.field-0-is _ _ c.in-Ok-Aborted.ensures.follows)

pub returns-in-Err : goal.returns-in-Err
returns-in-Err g c = rw c.end.ensures (then_run c.undo.invariant.undoes _ _ (second_cut _ _ _ c.undo-test.true (omega (arith, c.requires)) (ap (λ (pair : Part × Part). get_or c.args.pairs.now (c.undo.left - 1) pair) c.index-pairs-last.is) _ _ _ _ c.in-Err.ensures.cut))

pub returns : goal.returns
returns g c = then_run c.undo.invariant.undoes _ _ (none_to_undo _ _ (omega arith) _)
