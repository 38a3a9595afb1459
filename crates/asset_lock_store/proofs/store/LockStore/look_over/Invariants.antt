use Rattle.std.proofs.Common.{◌≡◌, ℕ, ◌<◌, false}
use Rattle.asset_lists.specs.Parted.{IsAt}
use Rattle.asset_lock_store.specs.Looked.{IsLook}
use Rattle.asset_lock_store.proofs.store.LockStore.look_over.Given as goal

-- this is what a look at the locks that were passed finds, and none of them blocks
abbrev pub invariant-keys : goal.invariant-keys
invariant-keys g l = record {
  permits : l.permits ≡ l.initial.permits;
  free : l.look.blocked ≡ false;
  look : IsLook l.self l.seats (λ u. g.A.Allows.allows l.initial.permits u l.request.asker.t.0 l.request.x.0 l.request.op) l.request.asker.t.0 l.request.op (λ k. (q : ℕ) × (q < l.key-index) × IsAt l.keys q k) l.look;
}
