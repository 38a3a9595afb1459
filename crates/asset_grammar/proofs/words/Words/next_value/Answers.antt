use Rattle.std.proofs.Common.{sym, ap, ◌∙◌}
use Rattle.asset_grammar.specs.Numbers.{positive_value, negative_value, value_of}
use Rattle.asset_grammar.specs.Words.{line_left}
use Rattle.asset_grammar.proofs.FirstLineLemmas.{signed_first, tail_after_sign, unsigned_first}
use Rattle.asset_grammar.proofs.WordLemmas.{valued, takes_mapped}
use Rattle.asset_grammar.proofs.words.Words.next_value.Goals as goal

pub returns-in_err-next_number : goal.returns-in_err-next_number
unfolding line_left
returns-in_err-next_number c =
    let none = rw (← c.self.view_is, c.if-self.false) at c.in_err-next_number.ensures in
    rw (c.from_residual.ensures, ← c.self.view_is, c.if-self.false)
    (unsigned_first c.self.inside.rest.now (sym c.has_at.ensures.is ∙ c.if-not-has_at.true) ∙ ap (valued positive_value) none)

pub returns-then-not-has_at : goal.returns-then-not-has_at
unfolding line_left
returns-then-not-has_at c =
    let read = rw (← c.self.view_is, c.if-self.false) at c.in_ok-next_number.ensures in
    rw (c.positive.ensures, ← c.self.view_is, c.if-self.false)
    (takes_mapped value_of _ _ (positive_value c.in_ok-next_number.field-0) read.1 (unsigned_first c.self.inside.rest.now (sym c.has_at.ensures.is ∙ c.if-not-has_at.true) ∙ ap (valued positive_value) read.0))

pub returns-in_err-next_number-2 : goal.returns-in_err-next_number-2
unfolding line_left
returns-in_err-next_number-2 c =
    let none = rw (c.if-self.false, c.split_at.ensures.back) at c.in_err-next_number-2.ensures in
    rw (c.from_residual-in_err-next_number-2.ensures, ← c.self.view_is, c.if-self.false)
    (signed_first c.self.inside.rest.now (sym c.has_at.ensures.is ∙ c.if-not-has_at.false) ∙ ap (valued negative_value) none)

pub returns : goal.returns
unfolding line_left
returns c =
    let sign = sym c.has_at.ensures.is ∙ c.if-not-has_at.false in
    let read = rw (c.if-self.false, c.split_at.ensures.back) at c.in_ok-next_number-2.ensures in
    rw (c.negative.ensures, ← c.self.view_is, c.if-self.false)
    (takes_mapped value_of _ _ (negative_value c.in_ok-next_number-2.field-0) (read.1 ∙ tail_after_sign c.self.inside.rest.now sign) (signed_first c.self.inside.rest.now sign ∙ ap (valued negative_value) read.0))
