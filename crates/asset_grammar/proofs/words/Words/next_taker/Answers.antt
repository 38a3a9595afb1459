use Rattle.std.proofs.Common.{Some, refl, sym, ◌∙◌, arith}
use Rattle.asset_grammar.specs.Lines.{first_line}
use Rattle.asset_grammar.specs.Operands.{txn_of}
use Rattle.asset_grammar.specs.PermitOperands.{any_of, taker_of}
use Rattle.asset_grammar.specs.Words.{line_left}
use Rattle.asset_grammar.proofs.FirstLineLemmas.{get_same}
use Rattle.asset_grammar.proofs.TakenLemmas.{taken_mapped, none_mapped}
use Rattle.asset_grammar.proofs.TakerLemmas.{any_read, txn_read}
use Rattle.asset_grammar.proofs.WordLemmas.{takes_same}
use Rattle.asset_grammar.proofs.words.Words.next_taker.Goals as goal

pub returns-then-has_at : goal.returns-then-has_at
unfolding line_left
returns-then-has_at c =
    let text = c.self.inside.rest.now in
    takes_same taker_of any_of _ _ c.next_any.result
    (rw (← c.self.view_is, c.if-self.false) (any_read (first_line text) (get_same 97 text 0 (omega arith) refl refl ∙ sym c.has_at.ensures.is ∙ c.if-has_at.true)))
    c.next_any.ensures

pub returns-in_err-taker : goal.returns-in_err-taker
unfolding line_left
returns-in_err-taker c =
    let text = c.self.inside.rest.now in
    let none = none_mapped Some txn_of _ c.in_err-taker.ensures in
    rw c.from_residual.ensures
    (rw (← c.self.view_is, c.if-self.false) (txn_read (first_line text) (get_same 97 text 0 (omega arith) refl refl ∙ sym c.has_at.ensures.is ∙ c.if-has_at.false)) ∙ none)

pub returns : goal.returns
unfolding line_left
returns c =
    let text = c.self.inside.rest.now in
    let read = taken_mapped Some txn_of _ _ _ c.in_ok-taker.ensures.0 in
    (rw (← c.self.view_is, c.if-self.false) (txn_read (first_line text) (get_same 97 text 0 (omega arith) refl refl ∙ sym c.has_at.ensures.is ∙ c.if-has_at.false)) ∙ read, c.in_ok-taker.ensures.1)
