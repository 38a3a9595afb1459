use Rattle.std.proofs.Common.{◌≡◌, ℕ, ◌⊎◌, Some, filter, length}
use Rattle.asset_chains.specs.Chained.{chain_of, home_of}
use Rattle.asset_chains.proofs.Walks.{from_key}
use Rattle.asset_lock_store.specs.LockRules.{moved, left, with_moved}
use Rattle.asset_lock_store.specs.Stored.{locks_at}
use Rattle.asset_lock_store.proofs.PassLemmas.{IsPassed}
use Rattle.asset_lock_store.proofs.store.LockStore.hand_each.Given as goal

-- of the keys that were passed none moves, and what moves in the end is the same
abbrev pub invariant-keys : goal.invariant-keys
invariant-keys l = record {
  passed : IsPassed l.objects l.self l.from l.next;
  giver : left l.objects (locks_at l.self l.from) ≡ left l.objects (locks_at l.initial.self l.from);
  taker : with_moved (filter (moved l.objects) (locks_at l.self l.from)) (locks_at l.self l.to) ≡ with_moved (filter (moved l.objects) (locks_at l.initial.self l.from)) (locks_at l.initial.self l.to);
  others : (d : ℕ) → (d ≡ l.from → ⊥) → (d ≡ l.to → ⊥) → locks_at l.self d ≡ locks_at l.initial.self d;
  seats : length l.self.by_owner.chains ≡ length l.initial.self.by_owner.chains;
  holders : (k d : ℕ) → home_of l.self.by_owner k ≡ Some d → (home_of l.initial.self.by_owner k ≡ Some d) ⊎ (d ≡ l.to);
  objects : l.self.objects ≡ l.initial.self.objects;
}

abbrev pub decreases-keys : goal.decreases-keys
decreases-keys l = length (from_key l.next (chain_of l.self.by_owner l.from))
