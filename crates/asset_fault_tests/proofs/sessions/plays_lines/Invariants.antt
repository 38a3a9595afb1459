use Rattle.asset_counts.specs.Pass.{IsOf}
use Rattle.asset_fault_tests.proofs.sessions.plays_lines.Given as goal

abbrev pub invariant-loop-line : goal.invariant-loop-line
invariant-loop-line g l = IsOf l.first.of l.manager × IsOf l.second.of l.manager
