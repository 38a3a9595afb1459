use Rattle.asset_counts.specs.Pass.{IsOf}
use Rattle.asset_manager_tests.proofs.crowd.runs_many.Given as goal

abbrev pub invariant-loop-round : goal.invariant-loop-round
invariant-loop-round g l = IsOf l.session.of l.manager
