use Rattle.std.proofs.Common.{◌≡◌, ℕ, ◌<◌, ◌≤◌, ◌-◌, length}
use Rattle.asset_chains.specs.Chained.{chain_of, home_of}
use Rattle.asset_seats.specs.Bucketed.{bucket_in, name_in, rebucketed}
use Rattle.asset_seats.proofs.buckets.spread.Given as goal

-- the seats that were passed are in their buckets, and the others are where they were
abbrev pub invariant-keys : goal.invariant-keys
invariant-keys l = record {
  at : l.key ≤ l.keys;
  done : (k : ℕ) → k < l.key → home_of l.chains k ≡ rebucketed (bucket_in (name_in l.names k).0 l.buckets) (home_of l.initial.chains k);
  rest : (k : ℕ) → l.key ≤ k → home_of l.chains k ≡ home_of l.initial.chains k;
  free : chain_of l.chains 0 ≡ chain_of l.initial.chains 0;
  same_keys : length l.chains.homes ≡ length l.initial.chains.homes;
  same_chains : length l.chains.chains ≡ length l.initial.chains.chains;
}

abbrev pub decreases-keys : goal.decreases-keys
decreases-keys l = l.keys - l.key
