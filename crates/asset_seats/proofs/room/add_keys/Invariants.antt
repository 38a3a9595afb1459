use Rattle.std.proofs.Common.{◌≡◌, ℕ, ◌≤◌, ◌+◌, ◌-◌, max, length}
use Rattle.asset_chains.specs.Chained.{home_of}
use Rattle.asset_seats.proofs.room.add_keys.Given as goal

-- keys were added, and nothing else changed
abbrev pub invariant-keys : goal.invariant-keys
invariant-keys l = record {
  chains : l.chains.chains ≡ l.initial.chains.chains;
  homes : (k : ℕ) → home_of l.chains k ≡ home_of l.initial.chains k;
  more : length l.initial.chains.homes ≤ length l.chains.homes;
  no_more : length l.chains.homes ≤ max (length l.initial.chains.homes) (l.key + 1);
}

abbrev pub decreases-keys : goal.decreases-keys
decreases-keys l = l.key + 1 - length l.chains.homes
