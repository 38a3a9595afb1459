use Rattle.std.proofs.Common.{◌≡◌, ℕ, ◌<◌, true}
use Rattle.asset_names.specs.Arrows.{lists}
use Rattle.asset_cycles.specs.Leaving.{end_at}
use Rattle.asset_marks.proofs.WalkLemmas.{IsMore}
use Rattle.asset_cycles.proofs.adjacency.AdjacencyArrows.expand.Given as goal

-- the ends of the arrows so far are met, and nothing else is new
abbrev pub invariant-arrows : goal.invariant-arrows
invariant-arrows l = record {
  size : l.marks.size ≡ l.initial.marks.size;
  more : IsMore l.self.arrows.items l.node l.initial.marks.nodes l.marks.nodes;
  met : (i : ℕ) → i < l.index → lists l.marks.nodes (end_at l.self.arrows.items l.self.leaving l.node i) ≡ true;
}
