use Rattle.std.proofs.Common.{◌≡◌, ◌-◌}
use Rattle.asset_marks.proofs.WalkLemmas.{Walked}
use Rattle.asset_marks.proofs.search.is_linked_within.Given as goal

-- the first node is expanded, and the first few of those that were met
abbrev pub invariant-met : goal.invariant-met
invariant-met g l = (l.marks.size ≡ l.fn.marks.size) × Walked (g.A.Arrows.arrows l.way) l.fn.from l.to l.marks.nodes l.next

abbrev pub decreases-met : goal.decreases-met
decreases-met g l = l.marks.size - l.next
