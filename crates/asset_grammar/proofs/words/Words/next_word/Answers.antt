use Rattle.std.proofs.Common.{◌∷◌, take, sym, ap, ◌∙◌}
use Rattle.asset_grammar.specs.Words.{line_left}
use Rattle.asset_grammar.proofs.FirstLineLemmas.{word_first, word_has_end}
use Rattle.asset_grammar.proofs.words.Words.next_word.Goals as goal

pub returns-in_err-self-inside : goal.returns-in_err-self-inside
returns-in_err-self-inside c = absurd (word_has_end _ _ c.word_size-size.ensures (c.in_err-self-inside.ensures.goes_on c.word_size-size.ensures.one_line))

pub returns : goal.returns
unfolding line_left
returns c =
    let ends = c.in_ok-self-inside.ensures.ends c.word_size-size.ensures.one_line in
    rw (← c.self.view_is, c.if-self.false, c.split_at.ensures.front) (
      word_first _ _ _ c.word_size-size.ensures ends
          ∙ ap (λ left. take c.word_size-size.result c.self.inside.rest.now ∷ left.words) (sym c.self-2.view_is),
      ap (λ left. left.tail) c.self-2.view_is ∙ ends.tail_is,
    )
