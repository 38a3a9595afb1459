use Rattle.asset_counts.specs.Pass.{IsOf}
use Rattle.asset_load.proofs.alone.run_session.Given as goal

abbrev pub invariant-loop-t : goal.invariant-loop-t
invariant-loop-t g l = IsOf l.session.of l.manager
