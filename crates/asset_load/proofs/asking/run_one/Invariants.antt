use Rattle.asset_counts.specs.Pass.{IsOf}
use Rattle.asset_load.proofs.asking.run_one.Given as goal

abbrev pub invariant-loop-index : goal.invariant-loop-index
invariant-loop-index g l = IsOf l.session.of l.manager
