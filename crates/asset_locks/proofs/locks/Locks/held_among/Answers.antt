use Rattle.std.proofs.Common.{List, map, filter, sym, ap, ◌∙◌}
use Rattle.asset_names.specs.InSet.{in_set}
use Rattle.asset_names.specs.declared.names.Ob.{Ob}
use Rattle.asset_lock_store.specs.declared.lock.Lock.{Lock}
use Rattle.asset_locks.specs.LockTable.{held_in}
use Rattle.asset_locks.proofs.TableLemmas.{no_locks_of}
use Rattle.asset_locks.proofs.locks.Locks.held_among.Goals as goal

pub returns-in-None-clause-held : goal.returns-in-None-clause-held
unfolding held_in
returns-in-None-clause-held c =
    let table = c.self.inside.table in
    rw (← c.self.view_is)
    (c.new.ensures.items
    ∙ ap (λ (l : List Lock). filter (λ (x : Ob). in_set c.args.objects.now x.0) (map (λ (lock : Lock). lock.object) l)) (sym (no_locks_of c.self.inside.seats table.pending table.order table.store c.self.invariant.0 c.laws.ensures.order c.args.t (λ d _. c.in-None.ensures.absent d))))
