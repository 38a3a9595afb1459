use Rattle.std.proofs.Common.{◌≡◌, ℕ, ◌<◌}
use Rattle.asset_lists.specs.Parted.{IsAt}
use Rattle.asset_lock_store.specs.Gathered.{blocks_as, IsGathered}
use Rattle.asset_lock_store.proofs.store.LockStore.gather_in.Given as goal

-- from the locks that were passed the names are gathered
abbrev pub invariant-keys : goal.invariant-keys
invariant-keys g l = record {
  permits : l.permits ≡ l.initial.permits;
  gathered : IsGathered (blocks_as l.self l.seats (λ n. g.A.Allows.allows l.initial.permits n l.request.asker.t.0 l.request.x.0 l.request.op) l.request.asker.t.0 l.request.op) (λ k. (q : ℕ) × (q < l.key-index) × IsAt l.keys q k) l.initial.found.keys l.found.keys;
}
