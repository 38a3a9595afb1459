use Rattle.asset_counts.specs.Pass.{IsOf}
use Rattle.asset_manager_tests.proofs.sizes.refused_often.Given as goal

abbrev pub invariant-loop : goal.invariant-loop
invariant-loop g l = IsOf l.session.of l.manager
