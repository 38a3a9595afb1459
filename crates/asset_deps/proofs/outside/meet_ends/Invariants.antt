use Rattle.std.proofs.Common.{◌≡◌, ◌-◌, length}
use Rattle.asset_chains.specs.Crossed.{lines, other_side}
use Rattle.asset_marks.specs.Searched.{arrows_along}
use Rattle.asset_deps.specs.declared.kinds.Kinds.TheVariants.{Order}
use Rattle.asset_deps.specs.Reached.{of_kinds}
use Rattle.asset_deps.proofs.OutsideLemmas.{IsMetFrom}
use Rattle.asset_deps.proofs.outside.meet_ends.Given as goal

-- from the first few of the members what is met is met
abbrev pub invariant-members : goal.invariant-members
invariant-members l = (l.found.size ≡ l.fn.found.size) × IsMetFrom (arrows_along (of_kinds Order) l.way.items.now.items (lines l.way.side l.way.items.now) (lines (other_side l.way.side) l.way.items.now)) l.class.nodes l.found.nodes l.next

abbrev pub decreases-members : goal.decreases-members
decreases-members l = length l.class.nodes - l.next
