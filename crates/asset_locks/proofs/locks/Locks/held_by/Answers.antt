use Rattle.std.proofs.Common.{List, map, sym, ap, ◌∙◌}
use Rattle.std.specs.Prelude.{slice_get}
use Rattle.asset_lock_store.specs.declared.lock.Lock.{Lock}
use Rattle.asset_locks.specs.LockTable.{held_in}
use Rattle.asset_locks.proofs.TableLemmas.{no_locks_of}
use Rattle.asset_locks.proofs.locks.Locks.held_by.Goals as goal

pub returns-in_err-at-clause-held : goal.returns-in_err-at-clause-held
unfolding held_in
returns-in_err-at-clause-held c =
    let table = c.self.inside.table in
    rw (← c.self.view_is)
    (c.from_residual.ensures
    ∙ ap (λ (l : List Lock). slice_get (map (λ (lock : Lock). lock.object) l) c.args.n) (sym (no_locks_of c.self.inside.seats table.pending table.order table.store c.self.invariant.0 c.laws.ensures.order c.args.t (λ d _. c.in_err-at.ensures.absent d))))
