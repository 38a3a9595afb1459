use Rattle.std.proofs.Common.{sym, ◌∙◌}
use Rattle.asset_name_groups.specs.Trees.{labels_in, flags_in}
use Rattle.asset_name_groups.proofs.JoinLemmas.{merged_turned, flags_turned, one_above}
use Rattle.asset_name_groups.proofs.trees.join_roots.Goals as goal

pub lead-requires-else-stays_above-clause-above : goal.lead-requires-else-stays_above-clause-above
lead-requires-else-stays_above-clause-above c = one_above c.args.a c.args.b (sym c.stays_above.ensures ∙ c.if-stays_above.false) c.requires.apart

pub returns-then-stays_above-clause-labels : goal.returns-then-stays_above-clause-labels
returns-then-stays_above-clause-labels c = c.lead.ensures.labels ∙ merged_turned (labels_in c.args.links.now.items) c.args.a.label c.args.b.label

pub returns-then-stays_above-clause-flags : goal.returns-then-stays_above-clause-flags
returns-then-stays_above-clause-flags c = c.lead.ensures.flags ∙ flags_turned (labels_in c.args.links.now.items) (flags_in c.args.links.now.items) c.args.a.label c.args.b.label
