use Rattle.std.proofs.Common.{◌≡◌, ◌≤◌, ◌+◌, ◌-◌, max}
use Rattle.asset_marks.proofs.marks.Marks.add.Given as goal

-- nodes were added
abbrev pub invariant-nodes : goal.invariant-nodes
invariant-nodes l = (l.initial.self.size ≤ l.self.size) × (l.self.size ≤ max l.initial.self.size (l.node + 1)) × (l.self.nodes ≡ l.initial.self.nodes)

abbrev pub decreases-nodes : goal.decreases-nodes
decreases-nodes l = l.node + 1 - l.self.size
