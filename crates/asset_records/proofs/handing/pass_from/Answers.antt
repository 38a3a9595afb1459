use Rattle.std.proofs.Common.{sym, ap, ◌∙◌}
use Rattle.std.proofs.lemmas.Bool.{eq-eqb, true≢false}
use Rattle.asset_records.specs.Handed.{is_at}
use Rattle.asset_records.proofs.handing.pass_from.Goals as goal

pub returns-in-Some-clause-other : goal.returns-in-Some-clause-other
returns-in-Some-clause-other c = λ away. absurd (true≢false (sym (eq-eqb c.in-Some.column c.args.from c.if-column-from.true) ∙ ap (is_at c.args.from) c.in-Some.ensures ∙ away))
