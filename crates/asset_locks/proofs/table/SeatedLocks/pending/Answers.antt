use Rattle.std.proofs.Common.{◌≡◌, true, List, is_some, sym, ap, subst, ◌∙◌}
use Rattle.asset_locks.specs.LockTable.{PendingRequest, enrolled_in}
use Rattle.asset_locks.specs.Tied.{pending_at, LockParts, rows_in}
use Rattle.asset_locks.proofs.TableLemmas.{request_of_seat, tied_inside}
use Rattle.asset_locks.proofs.table.SeatedLocks.pending.Goals as goal

pub returns : goal.returns
returns c =
    let inside = c.self.inside in
    let t = c.args.t in
    let tied = tied_inside inside.pending.items inside.order inside.store c.args.self.now c.args.seats.now c.self.view_is c.requires.tied in
    rw (← c.self.view_is)
    (c.request_at.ensures ∙ ap (λ (l : List PendingRequest). pending_at l t.at) c.deref.ensures.value ∙ sym (request_of_seat c.args.seats.now inside.pending.items inside.order inside.store tied c.laws-2.ensures.sound t.at t.t c.requires.sits
    (subst (λ (v : LockParts). is_some (enrolled_in (rows_in c.args.seats.now v) t.t.0) ≡ true) (sym c.self.view_is) c.requires.enrolled)))
