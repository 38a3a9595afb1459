use Rattle.std.proofs.Common.{sym, ◌∙◌, length, arith}
use Rattle.std.proofs.lemmas.Bool.{eqb-true, eqb-false}
use Rattle.asset_grammar.specs.Lines.{lines}
use Rattle.asset_grammar.proofs.FirstLineLemmas.{no_lines}
use Rattle.asset_grammar.proofs.LineLemmas.{cut_at_position, lacks_without_position}
use Rattle.asset_check.proofs.CheckerLemmas.{lines_at, one_line}
use Rattle.asset_check.proofs.lines.Lines.next.Goals as goal

pub returns-then-is_empty-clause-next : goal.returns-then-is_empty-clause-next
returns-then-is_empty-clause-next c = sym c.self.view_is ∙ no_lines c.self.inside.rest.now (eqb-true _ _ (sym c.is_empty.ensures ∙ c.if-is_empty.true))

pub returns-in-Some-clause-next : goal.returns-in-Some-clause-next
returns-in-Some-clause-next c =
    let text = c.self.inside.rest.now in
    sym c.self.view_is ∙ rw (c.split_at.ensures.front, c.split_at-in-Some.ensures.back) (lines_at text c.in-Some.at (sym c.first_position.ensures ∙ c.in-Some.is))

pub returns-in-Some-clause-one : goal.returns-in-Some-clause-one
returns-in-Some-clause-one c =
    let text = c.self.inside.rest.now in
    rw c.split_at.ensures.front (cut_at_position 10 text c.in-Some.at (sym c.first_position.ensures ∙ c.in-Some.is)).first

pub returns-in-None-clause-next : goal.returns-in-None-clause-next
unfolding lines
returns-in-None-clause-next c =
    let text = c.self.inside.rest.now in
    let some = eqb-false (length text) 0 (sym c.is_empty.ensures ∙ c.if-is_empty.false) in
    sym c.self.view_is ∙ one_line text (lacks_without_position 10 text (sym c.first_position.ensures ∙ c.in-None.is)) (omega (arith, some))

pub returns-in-None-clause-one : goal.returns-in-None-clause-one
returns-in-None-clause-one c = lacks_without_position 10 c.self.inside.rest.now (sym c.first_position.ensures ∙ c.in-None.is)
