use Rattle.std.proofs.Common.{◌≡◌, ◌-◌}
use Rattle.asset_marks.proofs.WalkLemmas.{IsSpread}
use Rattle.asset_marks.proofs.search.spread.Given as goal

-- the first few of the nodes that were met are expanded
abbrev pub invariant-met : goal.invariant-met
invariant-met g l = (l.marks.size ≡ l.fn.marks.size) × IsSpread (g.A.Arrows.arrows l.way) l.fn.from l.marks.nodes l.next

abbrev pub decreases-met : goal.decreases-met
decreases-met g l = l.marks.size - l.next
