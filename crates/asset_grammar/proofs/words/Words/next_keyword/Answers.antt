use Rattle.std.proofs.Common.{◌∷◌, refl, sym, ap, ◌∙◌}
use Rattle.asset_grammar.specs.Keywords.{keyword_text}
use Rattle.asset_grammar.specs.Words.{line_left}
use Rattle.asset_grammar.proofs.KeywordLemmas.{keyword_first, keyword_lacks, not_started, started, unlikely, word_is_longer}
use Rattle.asset_grammar.proofs.words.Words.next_keyword.Goals as goal

pub returns-in_err-keyword : goal.returns-in_err-keyword
unfolding line_left
returns-in_err-keyword c =
    let none = unlikely c.self.inside.rest.now (sym c.likely_keyword.ensures ∙ c.in_err-keyword.was) in
    rw c.from_residual.ensures (rw (← c.self.view_is, c.if-self.false) none, refl)

pub returns-then-not-starts_with : goal.returns-then-not-starts_with
unfolding line_left
returns-then-not-starts_with c =
    let is = sym c.likely_keyword.ensures ∙ c.in_ok-keyword.was in
    let other = rw c.text-text.ensures at (sym c.starts_with.ensures.value ∙ c.if-not-starts_with.true) in
    (rw (← c.self.view_is, c.if-self.false) (not_started c.self.inside.rest.now c.in_ok-keyword.keyword is other), refl)

pub returns-in_err-after : goal.returns-in_err-after
unfolding line_left
returns-in_err-after c =
    let text = c.self.inside.rest.now in
    let keyword = c.in_ok-keyword.keyword in
    let is = sym c.likely_keyword.ensures ∙ c.in_ok-keyword.was in
    let stands = started text keyword (rw c.text-text.ensures at (sym c.starts_with.ensures.value ∙ c.if-not-starts_with.false)) in
    let goes_on = rw c.text-text.ensures at c.in_err-after.ensures.goes_on in
    rw c.from_residual-in_err-after.ensures (rw (← c.self.view_is, c.if-self.false) (word_is_longer text keyword is (goes_on (rw stands (keyword_lacks 10 keyword refl)))), refl)

pub returns : goal.returns
unfolding line_left
returns c =
    let text = c.self.inside.rest.now in
    let keyword = c.in_ok-keyword.keyword in
    let stands = started text keyword (rw c.text-text.ensures at (sym c.starts_with.ensures.value ∙ c.if-not-starts_with.false)) in
    let ends = (rw c.text-text.ensures at c.in_ok-after.ensures.ends) (rw stands (keyword_lacks 10 keyword refl)) in
    let within = rw c.text-text.ensures at (c.if-not-starts_with.ensures.bound refl) in
    rw (← c.self.view_is, c.if-self.false) (
      keyword_first text keyword _ stands within ends
          ∙ ap (λ left. keyword_text keyword ∷ left.words) (sym c.after.view_is),
      ap (λ left. left.tail) c.after.view_is ∙ ends.tail_is,
    )
