use Rattle.std.proofs.Common.{◌≡◌}
use Rattle.asset_cycles.proofs.trimming.Trim.take_before.Given as goal

-- the graph is the same
abbrev pub invariant-arrows : goal.invariant-arrows
invariant-arrows l = l.self.graph ≡ l.initial.self.graph
