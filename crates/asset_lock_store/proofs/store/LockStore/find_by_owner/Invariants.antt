use Rattle.std.proofs.Common.{◌≡◌, ℕ, true, false, Some, ◌⊎◌, length}
use Rattle.asset_chains.specs.Chained.{chain_of, home_of, lists}
use Rattle.asset_chains.proofs.Walks.{from_key}
use Rattle.asset_lock_store.specs.LockRules.{is_on}
use Rattle.asset_lock_store.specs.Stored.{lock_at}
use Rattle.asset_lock_store.proofs.store.LockStore.find_by_owner.Given as goal

-- the locks that were passed are on other objects
abbrev pub invariant-keys : goal.invariant-keys
invariant-keys l = record {
  home : (k : ℕ) → l.next ≡ Some k → home_of l.self.by_owner k ≡ Some l.c;
  passed : (k : ℕ) → lists (chain_of l.self.by_owner l.c) k ≡ true
      → (lists (from_key l.next (chain_of l.self.by_owner l.c)) k ≡ true) ⊎ (is_on l.x.0 (lock_at l.self.locks k) ≡ false);
}

abbrev pub decreases-keys : goal.decreases-keys
decreases-keys l = length (from_key l.next (chain_of l.self.by_owner l.c))
