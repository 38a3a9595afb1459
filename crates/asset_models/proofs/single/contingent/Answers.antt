use Rattle.asset_models.proofs.RunLemmas.{then, then_run, next_part, last_part, cut_part, no_part}
use Rattle.asset_models.proofs.single.contingent.Goals as goal

pub returns-in-Ok-Committed : goal.returns-in-Ok-Committed
returns-in-Ok-Committed g c = then_run c.parts.invariant _ _ (last_part _ _ _ c.in-Some.ensures.cases.0 _ c.in-Ok-Committed.field-0-is _ _ c.in-Ok-Committed.ensures.follows)

pub returns-in-Err : goal.returns-in-Err
returns-in-Err g c = rw c.end.ensures (then_run c.parts.invariant _ _ (cut_part _ _ _ c.in-Some.ensures.cases.0 _ _ _ c.in-Err.ensures.cut))

pub parts-preserved : goal.parts-preserved
parts-preserved g c = then c.parts.invariant (next_part _ _ _ c.in-Some.ensures.cases.0 _ _ c.in-Ok-Aborted.field-0-is _ _ c.in-Ok-Aborted.ensures.follows)

pub returns : goal.returns
returns g c = then_run c.parts.invariant _ _ (no_part _ c.in_default.ensures.cases _)
