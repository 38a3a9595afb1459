use Rattle.std.proofs.Common.{◌≡◌, ℕ, ◌<◌, None, length, get_or}
use Rattle.asset_cycles.specs.Cyclic.{label_below}
use Rattle.asset_cycles.proofs.labelling.labels.Given as goal

-- each node has the least label among the first nodes
abbrev pub invariant-nodes : goal.invariant-nodes
invariant-nodes l = record {
  arrows : l.search.graph.forward.arrows.items ≡ l.fn.arrows.items;
  count : length l.search.graph.forward.leaving ≡ l.count;
  long : length l.labels.items ≡ l.count;
  least : (n : ℕ) → n < l.count → get_or l.labels.items n None ≡ label_below l.fn.arrows.items l.node n;
}
