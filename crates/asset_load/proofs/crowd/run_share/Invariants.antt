use Rattle.asset_counts.specs.Pass.{IsOf}
use Rattle.asset_load.proofs.crowd.run_share.Given as goal

abbrev pub invariant-loop-index : goal.invariant-loop-index
invariant-loop-index g l = IsOf l.session.of l.manager
