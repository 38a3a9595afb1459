use Rattle.std.proofs.Common.{◌≡◌}
use Rattle.asset_runner.specs.Arrived.{placed}
use Rattle.asset_runner.specs.Rows.{all_of}
use Rattle.asset_runner.proofs.order.put_rows.Given as goal

abbrev pub invariant-rows : goal.invariant-rows
invariant-rows g l = placed l.slots.items (all_of l.rows.items) ≡ placed l.initial.slots.items (all_of l.initial.rows.items)

abbrev pub decreases-rows : goal.decreases-rows
decreases-rows g l = goal.left-rows g l
