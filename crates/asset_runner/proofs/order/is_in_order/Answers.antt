use Rattle.std.proofs.Common.{Some, ◌∙◌, ap, arith, sym}
use Rattle.std.proofs.lemmas.Option.{slice_get-get_or}
use Rattle.asset_runner.proofs.OrderLemmas.{in_order_more}
use Rattle.asset_runner.proofs.order.is_in_order.Goals as goal

pub row-preserved : goal.row-preserved
row-preserved g c =
    let row = c.args.row.now in
    let here = c.index-row-place.result in
    let at = slice_get-get_or row c.row.place here (omega (arith, c.row-test.true)) ∙ ap Some (sym c.index-row-place.is) in
    in_order_more row c.row.place here c.row.invariant at (omega (arith, c.if-place.false, c.place.ensures))
