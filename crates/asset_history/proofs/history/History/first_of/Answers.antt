use Rattle.std.proofs.Common.{sym, ap, ◌∙◌, get_or, Some}
use Rattle.asset_names.specs.Arrows.{lists}
use Rattle.asset_name_groups.specs.NamesInGroups.{has_name}
use Rattle.asset_history.specs.Sharing.{named}
use Rattle.asset_history.proofs.ShareLemmas.{first_at, no_first}
use Rattle.asset_history.proofs.history.History.first_of.Goals as goal

pub returns-in-Some : goal.returns-in-Some
returns-in-Some c =
    let g = c.groups-groups.result.now in
    let found = c.in-Some.ensures.found in
    ap (λ n. Some (named n)) (c.name.ensures ∙ ap (λ k. get_or g.names k 0) c.label.ensures.label)
    ∙ sym (first_at c.args.self.now.entries g c.args.t.0 c.in-Some.node c.laws.ensures c.groups-groups.ensures.labels found.0 found.1)

pub returns-in-None : goal.returns-in-None
unfolding lists has_name
returns-in-None c = sym (no_first c.args.self.now.entries c.args.t.0 (ap (λ l. lists l c.args.t.0) (sym c.groups-groups.ensures.labels.names) ∙ c.in-None.ensures.absent))
