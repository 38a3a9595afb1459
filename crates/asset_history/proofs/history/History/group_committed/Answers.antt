use Rattle.std.proofs.Common.{sym, ap, ◌∙◌}
use Rattle.asset_names.specs.Arrows.{lists}
use Rattle.asset_name_groups.specs.NamesInGroups.{has_name}
use Rattle.asset_history.proofs.ShareLemmas.{committed_at_node, none_committed_group}
use Rattle.asset_history.proofs.history.History.group_committed.Goals as goal

pub returns-in-Some : goal.returns-in-Some
returns-in-Some c =
    let found = c.in-Some.ensures.found in
    let groups = c.groups-groups in
    c.is_flagged.ensures ∙ sym (committed_at_node c.args.self.now.opening c.args.self.now.entries groups.result.now c.args.t.0 c.in-Some.node groups.ensures.legal groups.ensures.labels found.0 found.1)

pub returns-in-None : goal.returns-in-None
unfolding lists has_name
returns-in-None c =
    let groups = c.groups-groups in
    sym (none_committed_group c.args.self.now.opening c.args.self.now.entries c.args.t.0 groups.ensures.legal (ap (λ l. lists l c.args.t.0) (sym groups.ensures.labels.names) ∙ c.in-None.ensures.absent))
