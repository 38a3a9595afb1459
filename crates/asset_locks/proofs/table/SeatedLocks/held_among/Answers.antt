use Rattle.std.proofs.Common.{◌≡◌, List, map, filter, sym, subst}
use Rattle.std.specs.Prelude.{IfOk}
use Rattle.asset_names.specs.InSet.{in_set}
use Rattle.asset_names.specs.declared.names.Ob.{Ob}
use Rattle.asset_lock_store.specs.declared.lock.Lock.{Lock}
use Rattle.asset_locks.specs.LockTable.{held_in}
use Rattle.asset_locks.proofs.TableLemmas.{locks_of_seat, tied_inside}
use Rattle.asset_locks.proofs.table.SeatedLocks.held_among.Goals as goal

pub returns-clause-held : goal.returns-clause-held
unfolding held_in
returns-clause-held c =
    let inside = c.self.inside in
    let seats = c.args.seats.now in
    let tied = tied_inside inside.pending.items inside.order inside.store c.args.self.now seats c.self.view_is c.requires.tied in
    rw (← c.self.view_is)
    (subst (λ (l : List Lock). IfOk c.held_among.result (λ held. held.items ≡ filter (λ (x : Ob). in_set c.args.objects.now x.0) (map (λ (lock : Lock). lock.object) l)))
    (sym (locks_of_seat seats inside.pending.items inside.order inside.store tied c.laws-2.ensures.sound c.laws-3.ensures.owners c.args.t.at c.args.t.t c.requires.sits)) c.held_among.ensures)
