use Rattle.std.proofs.Common.{List, sym, ap, ◌∙◌}
use Rattle.std.specs.Prelude.{option_map, find}
use Rattle.asset_lock_store.specs.declared.lock.Lock.{Lock}
use Rattle.asset_lock_store.specs.LockRules.{is_on, state_of}
use Rattle.asset_locks.specs.LockTable.{lock_in, status_in}
use Rattle.asset_locks.proofs.TableLemmas.{no_locks_of}
use Rattle.asset_locks.proofs.locks.Locks.status.Goals as goal

pub returns-in_err-at-clause-status : goal.returns-in_err-at-clause-status
unfolding status_in lock_in
returns-in_err-at-clause-status c =
    let table = c.self.inside.table in
    rw (← c.self.view_is)
    (c.from_residual.ensures
    ∙ ap (λ (l : List Lock). option_map state_of (find (is_on c.args.x.0) l)) (sym (no_locks_of c.self.inside.seats table.pending table.order table.store c.self.invariant.0 c.laws.ensures.order c.args.t (λ d _. c.in_err-at.ensures.absent d))))
