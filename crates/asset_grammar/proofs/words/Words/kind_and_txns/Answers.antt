use Rattle.std.proofs.Common.{◌∙◌}
use Rattle.asset_grammar.proofs.TakenLemmas.{then_some, then_none, closed_over, closed_more, kind_and_txns_taken}
use Rattle.asset_grammar.proofs.WordLemmas.{over_is_empty}
use Rattle.asset_grammar.proofs.words.Words.kind_and_txns.Goals as goal

pub returns-in_err-kind : goal.returns-in_err-kind
returns-in_err-kind c = rw c.from_residual.ensures (kind_and_txns_taken _ ∙ then_none _ _ _ c.in_err-kind.ensures)

pub returns-in_err-a : goal.returns-in_err-a
returns-in_err-a c = rw c.from_residual-in_err-a.ensures (kind_and_txns_taken _ ∙ then_some _ _ _ _ _ c.in_ok-kind.ensures.0 ∙ then_none _ _ _ c.in_err-a.ensures)

pub returns-in_err-b : goal.returns-in_err-b
returns-in_err-b c = rw c.from_residual-in_err-b.ensures (kind_and_txns_taken _ ∙ then_some _ _ _ _ _ c.in_ok-kind.ensures.0 ∙ then_some _ _ _ _ _ c.in_ok-a.ensures.0 ∙ then_none _ _ _ c.in_err-b.ensures)

pub returns-then-is_over : goal.returns-then-is_over
returns-then-is_over c = (kind_and_txns_taken _ ∙ then_some _ _ _ _ _ c.in_ok-kind.ensures.0 ∙ then_some _ _ _ _ _ c.in_ok-a.ensures.0 ∙ then_some _ _ _ _ _ c.in_ok-b.ensures.0 ∙ closed_over _ _ _ c.is_over.ensures c.if-is_over.true, (over_is_empty _ _ c.is_over.ensures c.if-is_over.true, c.in_ok-b.ensures.1 ∙ c.in_ok-a.ensures.1 ∙ c.in_ok-kind.ensures.1))

pub returns-else-is_over : goal.returns-else-is_over
returns-else-is_over c = kind_and_txns_taken _ ∙ then_some _ _ _ _ _ c.in_ok-kind.ensures.0 ∙ then_some _ _ _ _ _ c.in_ok-a.ensures.0 ∙ then_some _ _ _ _ _ c.in_ok-b.ensures.0 ∙ closed_more _ _ _ c.is_over.ensures c.if-is_over.false
