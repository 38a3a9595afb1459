use Rattle.asset_runner.specs.Arrived.{AllGoOn}
use Rattle.asset_runner.proofs.order.settle.Given as goal

abbrev pub invariant-passes : goal.invariant-passes
invariant-passes g l = AllGoOn l.initial.order.items l.order.items
