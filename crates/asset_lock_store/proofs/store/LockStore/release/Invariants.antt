use Rattle.std.proofs.Common.{◌≡◌, ℕ, Some, length}
use Rattle.asset_chains.specs.Chained.{chain_of, home_of, IsConsistent}
use Rattle.asset_lock_store.specs.Stored.{locks_at}
use Rattle.asset_lock_store.proofs.store.LockStore.release.Given as goal

-- some of the seat's locks are gone
abbrev pub invariant-keys : goal.invariant-keys
invariant-keys l = record {
  sound : IsConsistent l.self.by_owner;
  others : (d : ℕ) → (d ≡ l.c → ⊥) → locks_at l.self d ≡ locks_at l.initial.self d;
  seats : length l.self.by_owner.chains ≡ length l.initial.self.by_owner.chains;
  holders : (k d : ℕ) → home_of l.self.by_owner k ≡ Some d → home_of l.initial.self.by_owner k ≡ Some d;
  objects : l.self.objects ≡ l.initial.self.objects;
}

abbrev pub decreases-keys : goal.decreases-keys
decreases-keys l = length (chain_of l.self.by_owner l.c)
