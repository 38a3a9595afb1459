use Rattle.asset_locks.proofs.TableLemmas.{is_blocked_by, is_free_by, not_blocked, tied_inside}
use Rattle.asset_locks.proofs.table.SeatedLocks.is_free.Goals as goal

pub returns-clause-free : goal.returns-clause-free
returns-clause-free g c =
    let inside = c.self.inside in
    let seats = c.args.seats.now in
    let t = c.args.t.t.0 in
    let tied = tied_inside inside.pending.items inside.order inside.store c.args.self.now seats c.self.view_is c.requires.tied in
    rw (← c.self.view_is)
    (not_blocked c.look.result.blocked _
    (λ is. let by = c.look.ensures.blocked is in is_blocked_by seats inside.pending.items inside.order inside.store tied c.laws-2.ensures.sound (λ u. g.A.Allows.allows c.args.permits.now u t c.args.x.0 c.args.op) t c.args.x.0 c.args.op c.laws-3.ensures.owners by.0 by.1 by.2 by.3)
    (λ is. is_free_by seats inside.pending.items inside.order inside.store tied c.laws-2.ensures.sound (λ u. g.A.Allows.allows c.args.permits.now u t c.args.x.0 c.args.op) t c.args.x.0 c.args.op (c.look.ensures.free is)))
