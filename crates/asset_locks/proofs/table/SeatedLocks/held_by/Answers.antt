use Rattle.std.proofs.Common.{List, map, sym, ap, ◌∙◌}
use Rattle.std.specs.Prelude.{slice_get}
use Rattle.asset_lock_store.specs.declared.lock.Lock.{Lock}
use Rattle.asset_locks.specs.LockTable.{held_in}
use Rattle.asset_locks.proofs.TableLemmas.{locks_of_seat, tied_inside}
use Rattle.asset_locks.proofs.table.SeatedLocks.held_by.Goals as goal

pub returns-clause-held : goal.returns-clause-held
unfolding held_in
returns-clause-held c =
    let inside = c.self.inside in
    let seats = c.args.seats.now in
    let tied = tied_inside inside.pending.items inside.order inside.store c.args.self.now seats c.self.view_is c.requires.tied in
    rw (← c.self.view_is)
    (c.held_at.ensures
    ∙ ap (λ (l : List Lock). slice_get (map (λ (lock : Lock). lock.object) l) c.args.n) (sym (locks_of_seat seats inside.pending.items inside.order inside.store tied c.laws-2.ensures.sound c.laws-3.ensures.owners c.args.t.at c.args.t.t c.requires.sits)))
