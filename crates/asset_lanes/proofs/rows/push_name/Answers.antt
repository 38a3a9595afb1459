use Rattle.std.proofs.Common.{rules, sym, ◌∙◌, slice_get, append-nil}
use Rattle.asset_lanes.specs.Lanes.{name_at, name_list}
use Rattle.asset_deletion.proofs.NameLemmas.{told_name, no_name}
use Rattle.asset_lanes.proofs.rows.push_name.Goals as goal

pub returns-in_ok-push-in-Some : goal.returns-in_ok-push-in-Some
unfolding name_at name_list
returns-in_ok-push-in-Some c =
    let name = told_name (slice_get c.args.groups.now.names c.args.index) c.in-Some.t (sym c.name.ensures ∙ c.in-Some.is) in
    rw name (search rules)

pub returns-in-None : goal.returns-in-None
unfolding name_at name_list
returns-in-None c =
    let name = no_name (slice_get c.args.groups.now.names c.args.index) (sym c.name.ensures ∙ c.in-None.is) in
    rw name (sym (append-nil c.args.rows.now.items))
