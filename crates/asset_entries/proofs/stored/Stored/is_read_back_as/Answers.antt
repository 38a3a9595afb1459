use Rattle.std.proofs.Common.{rules, sym, ◌∙◌}
use Rattle.asset_entries.proofs.SameLemmas.{same_entry, equal_entry}
use Rattle.asset_entries.proofs.stored.Stored.is_read_back_as.Goals as goal

pub returns-then-eq-clause-same : goal.returns-then-eq-clause-same
returns-then-eq-clause-same c = λ last. sym c.entry-recorded.ensures ∙ same_entry c.entry-recorded.result.0 c.args.step.now c.entry-recorded.result.1 c.args.reply (search rules) (search rules)

pub returns-else-eq-clause-found : goal.returns-else-eq-clause-found
returns-else-eq-clause-found c = λ found. c.eq.ensures ∙ (equal_entry c.entry-recorded.result c.args.step.now c.args.reply (c.entry-recorded.ensures ∙ found)).0
