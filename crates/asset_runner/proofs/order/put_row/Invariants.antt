use Rattle.std.proofs.Common.{◌≡◌}
use Rattle.asset_runner.specs.Arrived.{placed}
use Rattle.asset_runner.proofs.order.put_row.Given as goal

abbrev pub invariant-row : goal.invariant-row
invariant-row g l = placed l.slots.items l.row.items ≡ placed l.initial.slots.items l.initial.row.items

abbrev pub decreases-row : goal.decreases-row
decreases-row g l = goal.left-row g l
