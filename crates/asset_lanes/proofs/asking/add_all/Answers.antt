use Rattle.std.proofs.Common.{◌+◌, List, ℕ, drop, sym, ap, ◌∙◌}
use Rattle.std.proofs.lemmas.List.{drop_all}
use Rattle.asset_lanes.specs.Uses.{with_names}
use Rattle.asset_lanes.proofs.ListLemmas.{names_next}
use Rattle.asset_lanes.proofs.asking.add_all.Goals as goal

pub rows-preserved : goal.rows-preserved
rows-preserved c =
    let rows = c.args.rows.now in
    let i = c.rows.n-index in
    ap (λ (l : List ℕ). with_names l (drop (i + 1) rows)) c.in_ok-add_name.ensures ∙ sym (names_next c.rows.names.keys rows i c.rows-test.true) ∙ c.rows.invariant

pub returns : goal.returns
unfolding with_names
returns c =
    let rows = c.args.rows.now in
    sym (ap (with_names c.rows.names.keys) (drop_all c.rows.n-index rows c.rows-test.false)) ∙ c.rows.invariant
