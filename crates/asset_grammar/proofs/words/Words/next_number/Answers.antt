use Rattle.std.proofs.Common.{ℕ, List, Some, refl, sym, ap, ◌∙◌}
use Rattle.asset_grammar.specs.Lines.{first_line}
use Rattle.asset_grammar.specs.Words.{line_left}
use Rattle.asset_grammar.proofs.WordLemmas.{no_number, other_end, number_first}
use Rattle.asset_grammar.proofs.FirstLineLemmas.{no_number_first, number_on_first, number_lacks_feed}
use Rattle.asset_grammar.proofs.words.Words.next_number.Goals as goal

pub returns-in_err-number : goal.returns-in_err-number
unfolding line_left
returns-in_err-number c = rw (c.from_residual.ensures, ← c.self.view_is, c.if-self.false) (no_number 32 (first_line c.self.inside.rest.now) refl (no_number_first c.self.inside.rest.now c.in_err-number.ensures))

pub returns-in_err-after : goal.returns-in_err-after
unfolding line_left
returns-in_err-after c =
    let text = c.self.inside.rest.now in
    let goes_on = c.in_err-after.ensures.goes_on (number_lacks_feed text c.in_ok-number.number c.in_ok-number.size c.in_ok-number.ensures) in
    rw (c.from_residual-in_err-after.ensures, ← c.self.view_is, c.if-self.false)
    (other_end 32 (first_line text) c.in_ok-number.number c.in_ok-number.size refl (number_on_first text c.in_ok-number.number c.in_ok-number.size c.in_ok-number.ensures) goes_on.inside goes_on.no_space)

pub returns : goal.returns
unfolding line_left
returns c =
    let text = c.self.inside.rest.now in
    let ends = c.in_ok-after.ensures.ends (number_lacks_feed text c.in_ok-number.number c.in_ok-number.size c.in_ok-number.ensures) in
    rw (← c.self.view_is, c.if-self.false) (
      number_first (first_line text) c.in_ok-number.number c.in_ok-number.size _ (number_on_first text c.in_ok-number.number c.in_ok-number.size c.in_ok-number.ensures) ends.words_are
          ∙ ap (λ (words : List (List ℕ)). Some (c.in_ok-number.number, words)) (ap (λ left. left.words) (sym c.after.view_is)),
      ap (λ left. left.tail) c.after.view_is ∙ ends.tail_is,
    )
