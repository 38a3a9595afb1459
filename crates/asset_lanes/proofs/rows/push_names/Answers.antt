use Rattle.std.proofs.Common.{◌++◌, List, ℕ, get_or, take, sym, ap, ◌∙◌, append-nil}
use Rattle.std.proofs.lemmas.List.{take_more, flat_map_more}
use Rattle.asset_lanes.specs.Lanes.{name_at, names_at}
use Rattle.asset_lanes.proofs.rows.push_names.Goals as goal

pub members-init : goal.members-init
unfolding names_at
members-init c = sym (append-nil c.args.rows.now.items)

pub members-preserved : goal.members-preserved
unfolding names_at
members-preserved c =
    let members = c.args.indices.now in
    let index = c.members.k-index in
    let groups = c.args.groups.now in
    rw (take_more members index 0 c.members-test.true)
    (c.in_ok-push_name.ensures
    ∙ ap (λ (l : List ℕ). l ++ name_at groups (get_or members index 0)) c.members.invariant
    ∙ flat_map_more (name_at groups) c.args.rows.now.items (take index members) (get_or members index 0))
