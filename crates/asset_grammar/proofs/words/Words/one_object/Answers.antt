use Rattle.std.proofs.Common.{◌∙◌}
use Rattle.asset_grammar.proofs.TakenLemmas.{then_some, then_none, closed_over, closed_more, one_object_taken}
use Rattle.asset_grammar.proofs.WordLemmas.{over_is_empty}
use Rattle.asset_grammar.proofs.words.Words.one_object.Goals as goal

pub returns-in_err-x : goal.returns-in_err-x
returns-in_err-x c = rw c.from_residual.ensures (one_object_taken _ ∙ then_none _ _ _ c.in_err-x.ensures)

pub returns-then-is_over : goal.returns-then-is_over
returns-then-is_over c = (one_object_taken _ ∙ then_some _ _ _ _ _ c.in_ok-x.ensures.0 ∙ closed_over _ _ _ c.is_over.ensures c.if-is_over.true, (over_is_empty _ _ c.is_over.ensures c.if-is_over.true, c.in_ok-x.ensures.1))

pub returns-else-is_over : goal.returns-else-is_over
returns-else-is_over c = one_object_taken _ ∙ then_some _ _ _ _ _ c.in_ok-x.ensures.0 ∙ closed_more _ _ _ c.is_over.ensures c.if-is_over.false
