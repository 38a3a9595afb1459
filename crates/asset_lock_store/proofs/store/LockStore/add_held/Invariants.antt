use Rattle.std.proofs.Common.{◌≡◌, ℕ, Some, ◌++◌, map, filter, length}
use Rattle.asset_names.specs.InSet.{in_set}
use Rattle.asset_names.specs.declared.names.Ob.{Ob}
use Rattle.asset_chains.specs.Chained.{chain_of, home_of}
use Rattle.asset_chains.proofs.Walks.{from_key}
use Rattle.asset_lock_store.specs.Stored.{lock_at}
use Rattle.asset_lock_store.proofs.store.LockStore.add_held.Given as goal

-- with those that are left there are all
abbrev pub invariant-keys : goal.invariant-keys
invariant-keys l = record {
  home : (k : ℕ) → l.next ≡ Some k → home_of l.self.by_owner k ≡ Some l.c;
  added : l.held.items ++ filter (λ (x : Ob). in_set l.objects x.0) (map (λ (k : ℕ). (lock_at l.self.locks k).object) (from_key l.next (chain_of l.self.by_owner l.c)))
      ≡ l.initial.held.items ++ filter (λ (x : Ob). in_set l.objects x.0) (map (λ (k : ℕ). (lock_at l.self.locks k).object) (chain_of l.self.by_owner l.c));
}

abbrev pub decreases-keys : goal.decreases-keys
decreases-keys l = length (from_key l.next (chain_of l.self.by_owner l.c))
