use Rattle.asset_counts.specs.Pass.{IsOf}
use Rattle.asset_manager_tests.proofs.watching.asks_and_looks.Given as goal

abbrev pub invariant-loop : goal.invariant-loop
invariant-loop g l = IsOf l.pass.of l.manager
