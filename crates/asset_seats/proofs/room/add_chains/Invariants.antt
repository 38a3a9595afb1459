use Rattle.std.proofs.Common.{◌≡◌, ℕ, ◌≤◌, ◌+◌, ◌-◌, max, length}
use Rattle.asset_chains.specs.Chained.{chain_of}
use Rattle.asset_seats.proofs.room.add_chains.Given as goal

-- chains were added, and nothing else changed
abbrev pub invariant-chains : goal.invariant-chains
invariant-chains l = record {
  homes : l.chains.homes ≡ l.initial.chains.homes;
  chains : (c : ℕ) → chain_of l.chains c ≡ chain_of l.initial.chains c;
  more : length l.initial.chains.chains ≤ length l.chains.chains;
  no_more : length l.chains.chains ≤ max (length l.initial.chains.chains) (l.chain + 1);
}

abbrev pub decreases-chains : goal.decreases-chains
decreases-chains l = l.chain + 1 - length l.chains.chains
