use Rattle.std.proofs.Common.{sym, ◌∙◌, length, arith}
use Rattle.std.proofs.lemmas.Bool.{eqb-true, eqb-false}
use Rattle.asset_grammar.specs.JobLines.{ReadsJobLine}
use Rattle.asset_grammar.specs.Lines.{first_line}
use Rattle.asset_grammar.proofs.FirstLineLemmas.{lines_first, no_lines}
use Rattle.asset_grammar.proofs.script.ScriptLines.next_job_line.Goals as goal

pub returns-then-is_empty : goal.returns-then-is_empty
unfolding ReadsJobLine
returns-then-is_empty c =
    let none = sym c.self.view_is ∙ no_lines c.self.inside.rest.now (eqb-true _ _ (sym c.is_empty.ensures ∙ c.if-is_empty.true)) in
    (none, none)

pub returns : goal.returns
unfolding ReadsJobLine
returns c =
    let some = eqb-false (length c.self.inside.rest.now) 0 (sym c.is_empty.ensures ∙ c.if-is_empty.false) in
    let step = lines_first c.self.inside.rest.now (omega (arith, some)) in (
      first_line c.self.inside.rest.now,
      sym c.self.view_is ∙ rw (c.next_lines-self-inside.ensures, c.read_job_line-line.ensures.tail) step,
      c.read_job_line-line.ensures.says,
    )
