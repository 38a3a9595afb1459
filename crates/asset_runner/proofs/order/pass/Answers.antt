use Rattle.std.proofs.Common.{◌<◌, length, refl, ◌∙◌, arith}
use Rattle.asset_runner.proofs.PlacingLemmas.{length_set}
use Rattle.asset_runner.proofs.GoesLemmas.{all_same, all_more, all_set}
use Rattle.asset_runner.proofs.order.pass.Goals as goal

pub order-init : goal.order-init
order-init g c = (all_same c.args.order.now.items, refl)

pub order-preserved : goal.order-preserved
order-preserved g c =
    let within : c.order.i < length c.order.order.items = omega (arith, c.order-test.true, c.len-i-end.ensures, c.order.invariant.1, c.args.order.now.ok) in (
      all_more _ _ _ c.order.invariant.0 (all_set c.order.order.items c.order.i c.index_mut.result.now c.ask_again.new.self within c.index_mut.ensures.value c.ask_again.ensures),
      length_set c.order.order.items c.order.i c.ask_again.new.self ∙ c.order.invariant.1,
    )
