use Rattle.std.proofs.Common.{◌≡◌, ◌++◌, take}
use Rattle.asset_lock_store.proofs.store.LockStore.add_objects.Given as goal

-- those that were passed have numbers
abbrev pub invariant-objects : goal.invariant-objects
invariant-objects l = record {
  added : l.self.objects ≡ l.initial.self.objects ++ take l.x-index l.objects;
  locks : l.self.locks ≡ l.initial.self.locks;
  by_owner : l.self.by_owner ≡ l.initial.self.by_owner;
}
