use Rattle.std.proofs.Common.{◌≡◌, ◌≤◌, ◌+◌, ◌-◌, max}
use Rattle.asset_lists.proofs.table.KeyLists.add_lists.Given as goal

-- lists were added, and nothing else changed
abbrev pub invariant-lists : goal.invariant-lists
invariant-lists l = record {
  parts : l.self.parts ≡ l.initial.self.parts;
  more : l.initial.self.lists ≤ l.self.lists;
  no_more : l.self.lists ≤ max l.initial.self.lists (l.list + 1);
}

abbrev pub decreases-lists : goal.decreases-lists
decreases-lists l = l.list + 1 - l.self.lists
