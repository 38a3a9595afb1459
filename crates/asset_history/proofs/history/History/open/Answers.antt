use Rattle.asset_history.proofs.HistoryLemmas.{nothing_kept}
use Rattle.asset_history.proofs.history.History.open.Goals as goal

pub invariant_of-result : goal.invariant_of-result
invariant_of-result c =
    rw c.in_ok-entries.ensures (nothing_kept c.args.opening.now c.args.capacity c.in-Ok.kept c.in-Ok.ensures.groups c.in-Ok.ensures.links c.in-Ok.ensures.closed c.in-Ok.ensures.users c.in-Ok.ensures.room)
