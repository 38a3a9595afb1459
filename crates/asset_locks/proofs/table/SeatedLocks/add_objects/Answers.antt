use Rattle.std.proofs.Common.{map}
use Rattle.asset_chains.specs.Chained.{chain_of}
use Rattle.asset_lock_store.specs.Stored.{lock_at, locks_at}
use Rattle.asset_locks.proofs.TableLemmas.{rows_kept}
use Rattle.asset_locks.proofs.table.SeatedLocks.add_objects.Goals as goal

pub returns-clause-rows : goal.returns-clause-rows
unfolding locks_at
returns-clause-rows c = λ seats.
    let inside = c.self.inside in
    rw (← c.self.view_is)
    (rows_kept seats inside.pending.items inside.order inside.store c.add_objects.new.self (λ d. λ i. map (lock_at (c.add_objects.ensures.locks i)) (chain_of (c.add_objects.ensures.by_owner i) d)))
