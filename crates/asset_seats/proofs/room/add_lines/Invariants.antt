use Rattle.std.proofs.Common.{◌≡◌, ◌≤◌, ◌+◌, ◌-◌, max, length}
use Rattle.asset_chains.specs.Crossed.{lines, other_side, IsGrown}
use Rattle.asset_seats.proofs.room.add_lines.Given as goal

-- rows or columns were added, and nothing else changed
abbrev pub invariant-lines : goal.invariant-lines
invariant-lines g l = record {
  grown : IsGrown l.initial.items l.items;
  same : l.items.items ≡ l.initial.items.items;
  no_more : length (lines l.side l.items).chains ≤ max (length (lines l.side l.initial.items).chains) (l.line + 1);
  others : lines (other_side l.side) l.items ≡ lines (other_side l.side) l.initial.items;
}

abbrev pub decreases-lines : goal.decreases-lines
decreases-lines g l = l.line + 1 - length (lines l.side l.items).chains
