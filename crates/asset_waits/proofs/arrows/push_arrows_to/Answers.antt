use Rattle.std.proofs.Common.{sym, append-nil}
use Rattle.asset_waits.specs.Deadlocks.{arrow_to}
use Rattle.asset_names.proofs.MoreLemmas.{item_more}
use Rattle.asset_waits.proofs.arrows.push_arrows_to.Goals as goal

pub waited-init : goal.waited-init
waited-init c = sym (append-nil c.args.arrows.now.items)

pub waited-preserved : goal.waited-preserved
unfolding arrow_to
waited-preserved c =
    let more = rw c.place_of.ensures at c.in_ok-push.ensures.items in
    item_more (arrow_to c.args.names.now.keys c.args.from) c.args.waited.now c.waited.u-index 0 c.args.arrows.now.items c.waited.arrows.items _ c.waited-test.true c.waited.invariant more
