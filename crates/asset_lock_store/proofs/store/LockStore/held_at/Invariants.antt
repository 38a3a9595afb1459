use Rattle.std.proofs.Common.{◌≡◌, ℕ, Some, map, length}
use Rattle.std.specs.Prelude.{slice_get}
use Rattle.asset_chains.specs.Chained.{chain_of, home_of}
use Rattle.asset_chains.proofs.Walks.{from_key}
use Rattle.asset_lock_store.specs.Stored.{lock_at}
use Rattle.asset_lock_store.proofs.store.LockStore.held_at.Given as goal

-- as many locks are yet to come as there are before the one that is sought
abbrev pub invariant-keys : goal.invariant-keys
invariant-keys l = record {
  home : (k : ℕ) → l.next ≡ Some k → home_of l.self.by_owner k ≡ Some l.c;
  left : slice_get (map (λ (k : ℕ). (lock_at l.self.locks k).object) (from_key l.next (chain_of l.self.by_owner l.c))) l.before ≡ slice_get (map (λ (k : ℕ). (lock_at l.self.locks k).object) (chain_of l.self.by_owner l.c)) l.index;
}

abbrev pub decreases-keys : goal.decreases-keys
decreases-keys l = length (from_key l.next (chain_of l.self.by_owner l.c))
