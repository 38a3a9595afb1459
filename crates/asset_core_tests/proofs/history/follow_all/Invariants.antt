use Rattle.std.proofs.Common.{◌≡◌}
use Rattle.asset_core_tests.proofs.history.follow_all.Given as goal

-- both have the same entries
abbrev pub invariant-steps : goal.invariant-steps
invariant-steps l = l.copy ≡ l.core.history
