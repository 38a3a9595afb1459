use Rattle.asset_counts.specs.Pass.{IsOf}
use Rattle.asset_load.proofs.alone.read_often.Given as goal

abbrev pub invariant-loop : goal.invariant-loop
invariant-loop l = IsOf l.pass.of l.manager
