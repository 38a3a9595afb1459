use Rattle.std.proofs.Common.{◌≡◌, ℕ, Some, length}
use Rattle.std.specs.Prelude.{slice_get, flat_map}
use Rattle.asset_chains.specs.Chained.{chain_of, home_of}
use Rattle.asset_chains.proofs.Walks.{from_key}
use Rattle.asset_locks.proofs.TableLemmas.{waiting_seat}
use Rattle.asset_locks.proofs.table.SeatedLocks.waiters.Given as goal

-- as many waiters are yet to come as there are before the one that is sought
abbrev pub invariant-enrolled : goal.invariant-enrolled
invariant-enrolled l = record {
  home : (k : ℕ) → l.next ≡ Some k → home_of l.self-inside.order k ≡ Some 0;
  left : slice_get (flat_map (waiting_seat l.seats l.self-inside.pending.items l.x.0) (from_key l.next (chain_of l.self-inside.order 0))) l.before
      ≡ slice_get (flat_map (waiting_seat l.seats l.self-inside.pending.items l.x.0) (chain_of l.self-inside.order 0)) l.n;
}

abbrev pub decreases-enrolled : goal.decreases-enrolled
decreases-enrolled l = length (from_key l.next (chain_of l.self-inside.order 0))
