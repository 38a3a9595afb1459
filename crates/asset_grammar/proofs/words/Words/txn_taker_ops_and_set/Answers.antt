use Rattle.std.proofs.Common.{◌∙◌}
use Rattle.asset_grammar.proofs.TakenLemmas.{then_some, then_none, closed_over, closed_more, txn_taker_ops_and_set_taken}
use Rattle.asset_grammar.proofs.WordLemmas.{over_is_empty}
use Rattle.asset_grammar.proofs.words.Words.txn_taker_ops_and_set.Goals as goal

pub returns-in_err-giver : goal.returns-in_err-giver
returns-in_err-giver c = rw c.from_residual.ensures (txn_taker_ops_and_set_taken _ ∙ then_none _ _ _ c.in_err-giver.ensures)

pub returns-in_err-taker : goal.returns-in_err-taker
returns-in_err-taker c = rw c.from_residual-in_err-taker.ensures (txn_taker_ops_and_set_taken _ ∙ then_some _ _ _ _ _ c.in_ok-giver.ensures.0 ∙ then_none _ _ _ c.in_err-taker.ensures)

pub returns-in_err-ops : goal.returns-in_err-ops
returns-in_err-ops c = rw c.from_residual-in_err-ops.ensures (txn_taker_ops_and_set_taken _ ∙ then_some _ _ _ _ _ c.in_ok-giver.ensures.0 ∙ then_some _ _ _ _ _ c.in_ok-taker.ensures.0 ∙ then_none _ _ _ c.in_err-ops.ensures)

pub returns-in_err-obs : goal.returns-in_err-obs
returns-in_err-obs c = rw c.from_residual-in_err-obs.ensures (txn_taker_ops_and_set_taken _ ∙ then_some _ _ _ _ _ c.in_ok-giver.ensures.0 ∙ then_some _ _ _ _ _ c.in_ok-taker.ensures.0 ∙ then_some _ _ _ _ _ c.in_ok-ops.ensures.0 ∙ then_none _ _ _ c.in_err-obs.ensures)

pub returns-then-is_over : goal.returns-then-is_over
returns-then-is_over c = (txn_taker_ops_and_set_taken _ ∙ then_some _ _ _ _ _ c.in_ok-giver.ensures.0 ∙ then_some _ _ _ _ _ c.in_ok-taker.ensures.0 ∙ then_some _ _ _ _ _ c.in_ok-ops.ensures.0 ∙ then_some _ _ _ _ _ c.in_ok-obs.ensures.0 ∙ closed_over _ _ _ c.is_over.ensures c.if-is_over.true, (over_is_empty _ _ c.is_over.ensures c.if-is_over.true, c.in_ok-obs.ensures.1 ∙ c.in_ok-ops.ensures.1 ∙ c.in_ok-taker.ensures.1 ∙ c.in_ok-giver.ensures.1))

pub returns-else-is_over : goal.returns-else-is_over
returns-else-is_over c = txn_taker_ops_and_set_taken _ ∙ then_some _ _ _ _ _ c.in_ok-giver.ensures.0 ∙ then_some _ _ _ _ _ c.in_ok-taker.ensures.0 ∙ then_some _ _ _ _ _ c.in_ok-ops.ensures.0 ∙ then_some _ _ _ _ _ c.in_ok-obs.ensures.0 ∙ closed_more _ _ _ c.is_over.ensures c.if-is_over.false
