use Rattle.std.proofs.Common.{◌∙◌}
use Rattle.asset_grammar.proofs.TakenLemmas.{then_some, then_none, closed_over, closed_more, parent_none, parent_read, txn_and_parent_taken}
use Rattle.asset_grammar.proofs.WordLemmas.{over_is_empty}
use Rattle.asset_grammar.proofs.words.Words.txn_and_parent.Goals as goal

pub returns-in_err-t : goal.returns-in_err-t
returns-in_err-t c = rw c.from_residual.ensures (txn_and_parent_taken _ ∙ then_none _ _ _ c.in_err-t.ensures)

pub returns-then-is_over : goal.returns-then-is_over
returns-then-is_over c = (parent_none _ _ _ _ c.in_ok-t.ensures.0 c.is_over.ensures c.if-is_over.true, (over_is_empty _ _ c.is_over.ensures c.if-is_over.true, c.in_ok-t.ensures.1))

pub returns-in_err-parent : goal.returns-in_err-parent
returns-in_err-parent c = rw c.from_residual-in_err-parent.ensures (parent_read _ _ _ _ c.in_ok-t.ensures.0 c.is_over.ensures c.if-is_over.false ∙ then_none _ _ _ c.in_err-parent.ensures)

pub returns-then-is_over-2 : goal.returns-then-is_over-2
returns-then-is_over-2 c =
    (parent_read _ _ _ _ c.in_ok-t.ensures.0 c.is_over.ensures c.if-is_over.false ∙ then_some _ _ _ _ _ c.in_ok-parent.ensures.0 ∙ closed_over _ _ _ c.is_over-2.ensures c.if-is_over-2.true, (over_is_empty _ _ c.is_over-2.ensures c.if-is_over-2.true, c.in_ok-parent.ensures.1 ∙ c.in_ok-t.ensures.1))

pub returns-else-is_over-2 : goal.returns-else-is_over-2
returns-else-is_over-2 c =
    parent_read _ _ _ _ c.in_ok-t.ensures.0 c.is_over.ensures c.if-is_over.false ∙ then_some _ _ _ _ _ c.in_ok-parent.ensures.0 ∙ closed_more _ _ _ c.is_over-2.ensures c.if-is_over-2.false
