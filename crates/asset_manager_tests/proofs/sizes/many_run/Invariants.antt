use Rattle.asset_counts.specs.Pass.{IsOf}
use Rattle.asset_manager_tests.proofs.sizes.many_run.Given as goal

abbrev pub invariant-loop-t : goal.invariant-loop-t
invariant-loop-t g l = IsOf l.first.of l.manager
