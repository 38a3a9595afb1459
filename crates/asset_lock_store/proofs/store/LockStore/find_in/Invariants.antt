use Rattle.std.proofs.Common.{◌≡◌, ℕ, ◌<◌, true}
use Rattle.asset_chains.specs.Chained.{home_of}
use Rattle.asset_lists.specs.Parted.{IsAt}
use Rattle.asset_lock_store.specs.Stored.{is_others}
use Rattle.asset_lock_store.proofs.store.LockStore.find_in.Given as goal

-- the keys that were passed are others'
abbrev pub invariant-keys : goal.invariant-keys
invariant-keys l = record {
  passed : (q k : ℕ) → q < l.key-index → IsAt l.keys q k → is_others l.c (home_of l.self.by_owner k) ≡ true;
}
