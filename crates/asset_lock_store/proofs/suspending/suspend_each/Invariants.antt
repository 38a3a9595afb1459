use Rattle.std.proofs.Common.{◌≡◌, ℕ, is_some, cond, ◌&&◌, take}
use Rattle.slab.specs.Slab.{get}
use Rattle.asset_chains.specs.Chained.{home_of, lists}
use Rattle.asset_lock_store.specs.LockRules.{paused}
use Rattle.asset_lock_store.specs.Stored.{lock_at, is_others}
use Rattle.asset_lock_store.proofs.suspending.suspend_each.Given as goal

-- the locks of others that were passed and conflict are suspended
abbrev pub invariant-keys : goal.invariant-keys
invariant-keys l = record {
  locks : (k : ℕ) → lock_at l.locks k ≡ cond (lists (take l.key-index l.keys) k && is_others l.c (home_of l.by_owner k)) (paused l.ops (lock_at l.initial.locks k)) (lock_at l.initial.locks k);
  keys : (k : ℕ) → is_some (get l.locks k) ≡ is_some (get l.initial.locks k);
}
