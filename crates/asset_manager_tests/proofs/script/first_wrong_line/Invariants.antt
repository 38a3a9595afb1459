use Rattle.asset_counts.specs.Pass.{IsOf}
use Rattle.asset_manager_tests.proofs.script.first_wrong_line.Given as goal

abbrev pub invariant-loop-before : goal.invariant-loop-before
invariant-loop-before g l = IsOf l.session.of l.manager
