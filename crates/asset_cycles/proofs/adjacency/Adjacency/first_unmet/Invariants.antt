use Rattle.std.proofs.Common.{◌≡◌, ℕ, ◌<◌, ◌-◌, true, [], length, get_or}
use Rattle.asset_names.specs.Arrows.{lists}
use Rattle.asset_cycles.specs.Leaving.{end_at}
use Rattle.asset_cycles.proofs.adjacency.Adjacency.first_unmet.Given as goal

-- the arrows so far lead to nodes that are met
abbrev pub invariant-arrows : goal.invariant-arrows
invariant-arrows l = (i : ℕ) → i < l.index → lists l.marks.nodes (end_at l.self.arrows.items l.self.leaving l.node i) ≡ true

abbrev pub decreases-arrows : goal.decreases-arrows
decreases-arrows l = length (get_or l.self.leaving l.node []) - l.index
