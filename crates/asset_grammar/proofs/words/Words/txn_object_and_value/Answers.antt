use Rattle.std.proofs.Common.{◌≡◌, ◌∙◌, arith}
use Rattle.std.proofs.lemmas.Int.{to_z-of_z}
use mir.Syntax.{w64}
use mir.Val.{to_z, of_z}
use Rattle.asset_grammar.proofs.TakenLemmas.{then_some, then_none, closed_over, closed_more, txn_object_and_value_taken}
use Rattle.asset_grammar.proofs.WordLemmas.{over_is_empty}
use Rattle.asset_grammar.proofs.words.Words.txn_object_and_value.Goals as goal

pub returns-in_err-t : goal.returns-in_err-t
returns-in_err-t c = rw c.from_residual.ensures (txn_object_and_value_taken _ ∙ then_none _ _ _ c.in_err-t.ensures)

pub returns-in_err-x : goal.returns-in_err-x
returns-in_err-x c = rw c.from_residual-in_err-x.ensures (txn_object_and_value_taken _ ∙ then_some _ _ _ _ _ c.in_ok-t.ensures.0 ∙ then_none _ _ _ c.in_err-x.ensures)

pub returns-in_err-v : goal.returns-in_err-v
returns-in_err-v c = rw c.from_residual-in_err-v.ensures (txn_object_and_value_taken _ ∙ then_some _ _ _ _ _ c.in_ok-t.ensures.0 ∙ then_some _ _ _ _ _ c.in_ok-x.ensures.0 ∙ then_none _ _ _ c.in_err-v.ensures)

pub returns-then-is_over : goal.returns-then-is_over
returns-then-is_over c =
    let fits : to_z w64 (of_z w64 c.in_ok-v.v) ≡ c.in_ok-v.v = grind (arith, to_z-of_z) in
    rw fits (txn_object_and_value_taken _ ∙ then_some _ _ _ _ _ c.in_ok-t.ensures.0 ∙ then_some _ _ _ _ _ c.in_ok-x.ensures.0 ∙ then_some _ _ _ _ _ c.in_ok-v.ensures.0 ∙ closed_over _ _ _ c.is_over.ensures c.if-is_over.true, (over_is_empty _ _ c.is_over.ensures c.if-is_over.true, c.in_ok-v.ensures.1 ∙ c.in_ok-x.ensures.1 ∙ c.in_ok-t.ensures.1))

pub returns-else-is_over : goal.returns-else-is_over
returns-else-is_over c = txn_object_and_value_taken _ ∙ then_some _ _ _ _ _ c.in_ok-t.ensures.0 ∙ then_some _ _ _ _ _ c.in_ok-x.ensures.0 ∙ then_some _ _ _ _ _ c.in_ok-v.ensures.0 ∙ closed_more _ _ _ c.is_over.ensures c.if-is_over.false
