use Rattle.std.proofs.Common.{sym, ap, ◌∙◌}
use Rattle.std.specs.Prelude.{option_map}
use Rattle.asset_grammar.specs.declared.grammar.Command.TheVariants.{Ask}
use Rattle.asset_grammar.specs.Grammar.{line_by, said_as}
use Rattle.asset_grammar.proofs.KeywordLemmas.{keyword_asks, nothing_asked}
use Rattle.asset_grammar.proofs.grammar.read_words.Goals as goal

pub returns-in_err-put_step : goal.returns-in_err-put_step
returns-in_err-put_step c =
    rw (c.from_residual.ensures, c.in-Some.ensures.0) (keyword_asks c.in-Some.keyword c.next_keyword.new.self.words ∙ ap (option_map Ask) c.in_err-put_step.ensures)

pub returns-in-Some : goal.returns-in-Some
unfolding line_by said_as
returns-in-Some c =
    let asked = keyword_asks c.in-Some.keyword c.next_keyword.new.self.words ∙ ap (option_map Ask) c.in_ok-put_step.ensures.0 in
    (rw c.in-Some.ensures.0 (ap line_by asked), (c.in_ok-put_step.ensures.1.0, c.in_ok-put_step.ensures.1.1 ∙ c.in-Some.ensures.1))

pub returns-then-ne : goal.returns-then-ne
returns-then-ne c = nothing_asked c.args.words.now.words _ _ (ap (λ left. left.words) (sym c.in_default.ensures.1) ∙ c.in_ok-next_word.ensures.0) c.in_default.ensures.0 (sym c.ne.ensures ∙ c.if-ne.true)
