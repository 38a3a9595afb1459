use Rattle.std.proofs.Common.{◌≡◌, ◌-◌, length}
use Rattle.asset_cycles.proofs.trimming.trimmed.Given as goal

-- the graph is the same
abbrev pub invariant-nodes : goal.invariant-nodes
invariant-nodes l = (l.trim.graph.forward.arrows.items ≡ l.fn.arrows.items) × (length l.trim.graph.forward.leaving ≡ l.count)

abbrev pub invariant-taken : goal.invariant-taken
invariant-taken l = (l.trim.graph.forward.arrows.items ≡ l.fn.arrows.items) × (length l.trim.graph.forward.leaving ≡ l.count)

abbrev pub decreases-taken : goal.decreases-taken
decreases-taken l = l.trim.taken.size - l.next
