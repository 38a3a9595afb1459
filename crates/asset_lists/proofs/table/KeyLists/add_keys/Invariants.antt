use Rattle.std.proofs.Common.{◌≡◌, ℕ, ◌≤◌, ◌+◌, ◌-◌, max, length}
use Rattle.asset_lists.specs.Parted.{part_of}
use Rattle.asset_lists.proofs.table.KeyLists.add_keys.Given as goal

-- keys were added, and nothing else changed
abbrev pub invariant-keys : goal.invariant-keys
invariant-keys l = record {
  lists : l.self.lists ≡ l.initial.self.lists;
  parts : (k : ℕ) → part_of l.self k ≡ part_of l.initial.self k;
  more : length l.initial.self.parts ≤ length l.self.parts;
  no_more : length l.self.parts ≤ max (length l.initial.self.parts) (l.key + 1);
}

abbrev pub decreases-keys : goal.decreases-keys
decreases-keys l = l.key + 1 - length l.self.parts
