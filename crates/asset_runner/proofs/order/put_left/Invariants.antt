use Rattle.std.proofs.Common.{◌≡◌, map}
use Rattle.asset_runner.specs.Arrived.{placed, left_at}
use Rattle.asset_runner.proofs.order.put_left.Given as goal

abbrev pub invariant-left : goal.invariant-left
invariant-left g l =
    placed l.slots.items (map (λ j. left_at j.place j.name j.body j.session) l.left.items)
    ≡ placed l.initial.slots.items (map (λ j. left_at j.place j.name j.body j.session) l.initial.left.items)

abbrev pub decreases-left : goal.decreases-left
decreases-left g l = goal.left-left g l
