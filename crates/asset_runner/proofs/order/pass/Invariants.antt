use Rattle.std.proofs.Common.{◌≡◌, length}
use Rattle.asset_runner.specs.Arrived.{AllGoOn}
use Rattle.asset_runner.proofs.order.pass.Given as goal

abbrev pub invariant-order : goal.invariant-order
invariant-order g l = AllGoOn l.initial.order.items l.order.items × (length l.order.items ≡ length l.initial.order.items)
