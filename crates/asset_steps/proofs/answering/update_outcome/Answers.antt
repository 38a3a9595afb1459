use Rattle.std.proofs.Common.{true, false, sym, ◌∙◌}
use Rattle.asset_steps.proofs.OperationLemmas.{update_unrefused}
use Rattle.asset_steps.proofs.answering.update_outcome.Goals as goal

pub returns-then-is_free-clause-outcome : goal.returns-then-is_free-clause-outcome
returns-then-is_free-clause-outcome c = λ v opening steps stand.
    update_unrefused opening steps c.args.t c.args.x c.args.update v true (sym (rw c.op.ensures at c.is_free.ensures.shown opening steps stand) ∙ c.if-is_free.true)

pub returns-else-is_free-clause-outcome : goal.returns-else-is_free-clause-outcome
returns-else-is_free-clause-outcome c = λ v opening steps stand.
    update_unrefused opening steps c.args.t c.args.x c.args.update v false (sym (rw c.op.ensures at c.is_free.ensures.shown opening steps stand) ∙ c.if-is_free.false)
