use Rattle.std.proofs.Common.{◌≡◌, [], map, sym, ap, ◌∙◌}
use Rattle.asset_runner.specs.Placing.{nones, somes}
use Rattle.asset_runner.specs.Arrived.{placed, left_at}
use Rattle.asset_runner.specs.Rows.{all_of}
use Rattle.asset_runner.proofs.PlacingLemmas.{nothing_left, as_it_is}
use Rattle.asset_runner.proofs.plan.arrange.Goals as goal

pub returns-in-Ok : goal.returns-in-Ok
returns-in-Ok g c =
    let row = c.in-Ok.row.items in
    let none : c.args.left.items ≡ [] = nothing_left c.args.left.items _ c.args.left.ok.0 c.if-not-is_empty.ensures in
    let stand = c.in-Ok.ensures.row.1 in
    sym (ap (λ l. somes (placed (placed (nones c.args.jobs) (map (λ j. left_at j.place j.name j.body j.session) l)) (all_of c.args.rows.items))) none
    ∙ (ap (λ l. somes (placed (nones c.args.jobs) l)) c.in-Ok.ensures.row.0
    ∙ (ap (λ n. somes (placed (nones n) row)) (sym stand.0)
    ∙ as_it_is (λ a. a.place) row stand.1)))
