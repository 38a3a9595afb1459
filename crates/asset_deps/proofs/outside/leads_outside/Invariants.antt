use Rattle.std.proofs.Common.{◌≡◌, ℕ, ◌<◌, ◌-◌, true, get_or, length}
use Rattle.asset_names.specs.Arrows.{lists, has_arrow}
use Rattle.asset_chains.specs.Crossed.{lines, other_side}
use Rattle.asset_marks.specs.Searched.{arrows_along}
use Rattle.asset_deps.specs.declared.kinds.Kinds.TheVariants.{Order}
use Rattle.asset_deps.specs.Reached.{of_kinds}
use Rattle.asset_deps.proofs.outside.leads_outside.Given as goal

-- none of the first few of the nodes leads outside
abbrev pub invariant-met : goal.invariant-met
invariant-met l =
    (i : ℕ) → i < l.next → (t : ℕ) → has_arrow (arrows_along (of_kinds Order) l.way.items.now.items (lines l.way.side l.way.items.now) (lines (other_side l.way.side) l.way.items.now)) (get_or l.marks.nodes i 0) t ≡ true → lists l.marks.nodes t ≡ true

abbrev pub decreases-met : goal.decreases-met
decreases-met l = length l.marks.nodes - l.next
