use Rattle.std.proofs.Common.{◌≡◌, ℕ, true, Some, ◌⊎◌, length}
use Rattle.asset_chains.specs.Chained.{chain_of, home_of, lists}
use Rattle.asset_chains.proofs.Walks.{from_key}
use Rattle.asset_seats.specs.Bucketed.{name_in}
use Rattle.asset_seats.proofs.buckets.find.Given as goal

-- the key is in the chain, and none that was passed has the name
abbrev pub invariant-keys : goal.invariant-keys
invariant-keys l = record {
  on : (k : ℕ) → l.next ≡ Some k → home_of l.chains k ≡ Some l.chain;
  passed : (k : ℕ) → lists (chain_of l.chains l.chain) k ≡ true → (lists (from_key l.next (chain_of l.chains l.chain)) k ≡ true) ⊎ (name_in l.names k ≡ l.t → ⊥);
}

abbrev pub decreases-keys : goal.decreases-keys
decreases-keys l = length (from_key l.next (chain_of l.chains l.chain))
