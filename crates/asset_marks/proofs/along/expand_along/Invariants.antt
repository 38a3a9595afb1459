use Rattle.std.proofs.Common.{◌≡◌, ℕ, true, Some}
use Rattle.slab.specs.Slab.{get}
use Rattle.asset_names.specs.Arrows.{lists as lists_node}
use Rattle.asset_chains.specs.Chained.{chain_of, home_of, lists}
use Rattle.asset_chains.specs.Crossed.{lines, other_side}
use Rattle.asset_marks.specs.Searched.{arrows_along, leads_to}
use Rattle.asset_marks.proofs.KeyWalkLemmas.{passed, left, IsOn}
use Rattle.asset_marks.proofs.WalkLemmas.{IsMore}
use Rattle.asset_marks.proofs.along.expand_along.Given as goal

-- where the items that are passed lead is met, and nothing else is new
abbrev pub invariant-keys : goal.invariant-keys
invariant-keys g l = record {
  size : l.marks.size ≡ l.initial.marks.size;
  on : IsOn (lines l.way.side l.way.items.now) l.node l.next;
  more : IsMore (arrows_along (g.P.Pick.passes l.pick) l.way.items.now.items (lines l.way.side l.way.items.now) (lines (other_side l.way.side) l.way.items.now)) l.node l.initial.marks.nodes l.marks.nodes;
  passed : (k t : ℕ) → lists (passed l.next (chain_of (lines l.way.side l.way.items.now) l.node)) k ≡ true → leads_to (g.P.Pick.passes l.pick) (get l.way.items.now.items k) (home_of (lines (other_side l.way.side) l.way.items.now) k) ≡ Some t → lists_node l.marks.nodes t ≡ true;
}

abbrev pub decreases-keys : goal.decreases-keys
decreases-keys g l = left l.next (chain_of (lines l.way.side l.way.items.now) l.node)
