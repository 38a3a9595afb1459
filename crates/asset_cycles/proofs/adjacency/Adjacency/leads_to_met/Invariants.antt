use Rattle.std.proofs.Common.{◌≡◌, ℕ, ◌<◌, false}
use Rattle.asset_names.specs.Arrows.{lists}
use Rattle.asset_cycles.specs.Leaving.{end_at}
use Rattle.asset_cycles.proofs.adjacency.Adjacency.leads_to_met.Given as goal

-- the arrows so far lead to nodes that are not met
abbrev pub invariant-arrows : goal.invariant-arrows
invariant-arrows l = (i : ℕ) → i < l.index → lists l.marks.nodes (end_at l.self.arrows.items l.self.leaving l.node i) ≡ false
