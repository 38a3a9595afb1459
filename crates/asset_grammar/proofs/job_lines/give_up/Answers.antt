use Rattle.std.proofs.Common.{sym, ◌∙◌}
use Rattle.asset_grammar.proofs.JobLemmas.{gives_up, gives_up_alone}
use Rattle.asset_grammar.proofs.WordLemmas.{over_is_empty}
use Rattle.asset_grammar.proofs.job_lines.give_up.Goals as goal

pub returns-then-is_over : goal.returns-then-is_over
returns-then-is_over c =
    let gone = over_is_empty _ _ c.is_over.ensures c.if-is_over.true in
    (gives_up _ _ _ c.in_ok-word.ensures.0 gone (sym c.ne.ensures ∙ c.if-ne.false), (gone, c.in_ok-word.ensures.1))

pub returns-else-is_over : goal.returns-else-is_over
returns-else-is_over c = gives_up_alone _ _ _ c.in_ok-word.ensures.0 (sym c.if-is_over.false ∙ c.is_over.ensures)
