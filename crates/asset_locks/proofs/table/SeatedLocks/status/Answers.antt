use Rattle.std.proofs.Common.{Some, sym, ap, ◌∙◌}
use Rattle.std.specs.Prelude.{option_map}
use Rattle.asset_locks.specs.LockTable.{status_in}
use Rattle.asset_lock_store.specs.LockRules.{state_of}
use Rattle.asset_locks.proofs.TableLemmas.{lock_of_seat, tied_inside}
use Rattle.asset_lock_store.proofs.GrantLemmas.{found_here, none_here}
use Rattle.asset_locks.proofs.table.SeatedLocks.status.Goals as goal

pub key_on-requires : goal.key_on-requires
key_on-requires c = rw (← c.self.view_is) at c.requires.number

pub returns-in_err-key-clause-status : goal.returns-in_err-key-clause-status
unfolding status_in
returns-in_err-key-clause-status c =
    let inside = c.self.inside in
    let seats = c.args.seats.now in
    let t = c.args.t in
    let tied = tied_inside inside.pending.items inside.order inside.store c.args.self.now seats c.self.view_is c.requires.tied in
    rw (← c.self.view_is)
    (c.from_residual.ensures
    ∙ ap (option_map state_of) (sym (lock_of_seat seats inside.pending.items inside.order inside.store tied c.laws-2.ensures.sound c.laws-3.ensures.owners t.at t.t c.args.x.0 c.requires.sits ∙ (none_here inside.store c.laws-3.ensures.stored c.laws-3.ensures.owners t.at c.args.x c.in_err-key.ensures.none).1)))

pub returns-clause-status : goal.returns-clause-status
unfolding status_in
returns-clause-status c =
    let inside = c.self.inside in
    let seats = c.args.seats.now in
    let t = c.args.t in
    let tied = tied_inside inside.pending.items inside.order inside.store c.args.self.now seats c.self.view_is c.requires.tied in
    rw (← c.self.view_is)
    (ap Some (c.state.ensures ∙ ap state_of c.lock.ensures)
    ∙ ap (option_map state_of) (sym (lock_of_seat seats inside.pending.items inside.order inside.store tied c.laws-2.ensures.sound c.laws-3.ensures.owners t.at t.t c.args.x.0 c.requires.sits ∙ (found_here inside.store c.laws-3.ensures.stored c.laws-3.ensures.owners t.at c.args.x c.in_ok-key.key c.in_ok-key.ensures.found.0 c.in_ok-key.ensures.found.1).1)))
