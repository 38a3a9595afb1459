use Rattle.std.proofs.Common.{◌≡◌, Bool, true, Some, None, is_some, inl, refl, sym, ap, subst, ◌∙◌, arith}
use Rattle.std.proofs.lemmas.List.{length-set}
use Rattle.asset_names.proofs.Common.{always_err}
use Rattle.asset_lock_store.specs.LockRules.{is_on}
use Rattle.asset_locks.specs.LockTable.{enrolled_in}
use Rattle.asset_locks.specs.Valid.{answer_where, after_ask}
use Rattle.asset_locks.specs.Tied.{rows_of, LockParts, rows_in}
use Rattle.asset_lock_store.proofs.LookLemmas.{noted}
use Rattle.asset_locks.proofs.TableLemmas.{is_blocked_by, is_free_by, waits, grants, rows_kept, find_absent, lock_of_seat, home_if_enrolled, seated_later, tied_inside}
use Rattle.asset_locks.proofs.table.SeatedLocks.ask.Goals as goal

pub index_mut-requires : goal.index_mut-requires
index_mut-requires g c =
    let inside = c.self.inside in
    let tied = tied_inside inside.pending.items inside.order inside.store c.args.self.now c.args.seats.now c.self.view_is c.requires.tied in
    omega (arith, (tied.places c.args.t.at c.args.t.t c.requires.sits).request)

pub returns-then-look-clause-tied : goal.returns-then-look-clause-tied
returns-then-look-clause-tied g c =
    let inside = c.self.inside in
    let seats = c.args.seats.now in
    let t = c.args.t in
    let tied = tied_inside inside.pending.items inside.order inside.store c.args.self.now seats c.self.view_is c.requires.tied in
    let home = home_if_enrolled seats inside.pending.items inside.order inside.store tied c.laws-2.ensures.sound t.at t.t c.requires.sits (subst (λ (v : LockParts). is_some (enrolled_in (rows_in seats v) t.t.0) ≡ true) (sym c.self.view_is) c.requires.enrolled) in
    seated_later seats inside.pending.items inside.order inside.store tied c.laws-2.ensures.sound t.at t.t c.requires.sits home _ inside.store (omega (arith, length-set inside.pending.items t.at (Some (c.args.x, c.args.op)))) (omega arith) (λ k d held. inl held)

pub returns-then-look-clause-answer : goal.returns-then-look-clause-answer
unfolding answer_where
returns-then-look-clause-answer g c =
    let inside = c.self.inside in
    let seats = c.args.seats.now in
    let t = c.args.t in
    let tied = tied_inside inside.pending.items inside.order inside.store c.args.self.now seats c.self.view_is c.requires.tied in
    let by = c.look-look.ensures.blocked c.if-look.true in
    let blocked = is_blocked_by seats inside.pending.items inside.order inside.store tied c.laws-2.ensures.sound (λ u. g.A.Allows.allows c.args.permits.now u t.t.0 c.args.x.0 c.args.op) t.t.0 c.args.x.0 c.args.op c.laws-3.ensures.owners by.0 by.1 by.2 by.3 in
    rw (← c.self.view_is) (sym (ap answer_where blocked))

pub returns-then-look-clause-done : goal.returns-then-look-clause-done
unfolding after_ask
returns-then-look-clause-done g c =
    let inside = c.self.inside in
    let seats = c.args.seats.now in
    let t = c.args.t in
    let tied = tied_inside inside.pending.items inside.order inside.store c.args.self.now seats c.self.view_is c.requires.tied in
    let by = c.look-look.ensures.blocked c.if-look.true in
    let blocked = is_blocked_by seats inside.pending.items inside.order inside.store tied c.laws-2.ensures.sound (λ u. g.A.Allows.allows c.args.permits.now u t.t.0 c.args.x.0 c.args.op) t.t.0 c.args.x.0 c.args.op c.laws-3.ensures.owners by.0 by.1 by.2 by.3 in
    let home = home_if_enrolled seats inside.pending.items inside.order inside.store tied c.laws-2.ensures.sound t.at t.t c.requires.sits (subst (λ (v : LockParts). is_some (enrolled_in (rows_in seats v) t.t.0) ≡ true) (sym c.self.view_is) c.requires.enrolled) in
    rw (← c.self.view_is)
    (waits seats inside.pending.items inside.order inside.store tied c.laws-2.ensures.sound t.at t.t c.requires.sits c.args.x c.args.op
    ∙ sym (ap (λ (free : Bool). after_ask free t.t.0 c.args.x c.args.op (rows_of seats inside.pending.items inside.order inside.store)) blocked))

pub grant-requires-clause-noted : goal.grant-requires-clause-noted
grant-requires-clause-noted g c =
    let inside = c.self.inside in
    let seats = c.args.seats.now in
    let t = c.args.t in
    let tied = tied_inside inside.pending.items inside.order inside.store c.args.self.now seats c.self.view_is c.requires.tied in
    noted inside.store seats (λ u. g.A.Allows.allows c.args.permits.now u t.t.0 c.args.x.0 c.args.op) t.t c.args.x.0 c.args.op c.look-look.result c.look-look.ensures.look t.at c.requires.sits (λ d other. tied.single d t.at t.t other c.requires.sits) (λ d k held. (tied.enrolled d 0 (tied.holders d k held)).1) c.if-look.false

pub grant-requires-clause-seat : goal.grant-requires-clause-seat
grant-requires-clause-seat g c =
    let inside = c.self.inside in
    let seats = c.args.seats.now in
    let t = c.args.t in
    let tied = tied_inside inside.pending.items inside.order inside.store c.args.self.now seats c.self.view_is c.requires.tied in
    (tied.places t.at t.t c.requires.sits).locks

pub returns-in_err-grant-clause-tied : goal.returns-in_err-grant-clause-tied
returns-in_err-grant-clause-tied g c =
    let inside = c.self.inside in
    let seats = c.args.seats.now in
    let t = c.args.t in
    let tied = tied_inside inside.pending.items inside.order inside.store c.args.self.now seats c.self.view_is c.requires.tied in
    let home = home_if_enrolled seats inside.pending.items inside.order inside.store tied c.laws-2.ensures.sound t.at t.t c.requires.sits (subst (λ (v : LockParts). is_some (enrolled_in (rows_in seats v) t.t.0) ≡ true) (sym c.self.view_is) c.requires.enrolled) in
    seated_later seats inside.pending.items inside.order inside.store tied c.laws-2.ensures.sound t.at t.t c.requires.sits home inside.pending.items c.grant.new.self (omega arith) c.grant.ensures.seats c.grant.ensures.holders

pub returns-in_err-grant-clause-memory : goal.returns-in_err-grant-clause-memory
returns-in_err-grant-clause-memory g c =
    let inside = c.self.inside in
    let seats = c.args.seats.now in
    let t = c.args.t in
    let tied = tied_inside inside.pending.items inside.order inside.store c.args.self.now seats c.self.view_is c.requires.tied in
    let free = is_free_by seats inside.pending.items inside.order inside.store tied c.laws-2.ensures.sound (λ u. g.A.Allows.allows c.args.permits.now u t.t.0 c.args.x.0 c.args.op) t.t.0 c.args.x.0 c.args.op (c.look-look.ensures.free c.if-look.false) in
    λ failed. rw (← c.self.view_is) free

pub returns-in_err-grant-clause-first : goal.returns-in_err-grant-clause-first
returns-in_err-grant-clause-first g c =
    let inside = c.self.inside in
    let seats = c.args.seats.now in
    let t = c.args.t in
    let tied = tied_inside inside.pending.items inside.order inside.store c.args.self.now seats c.self.view_is c.requires.tied in
    λ failed. rw (← c.self.view_is)
    (lock_of_seat seats inside.pending.items inside.order inside.store tied c.laws-2.ensures.sound c.laws-3.ensures.owners t.at t.t c.args.x.0 c.requires.sits
    ∙ find_absent (is_on c.args.x.0) _ (c.grant.ensures.first (rw c.in_err-grant.was refl)))

pub returns-in_err-grant-clause-unchanged : goal.returns-in_err-grant-clause-unchanged
returns-in_err-grant-clause-unchanged g c =
    let inside = c.self.inside in
    let seats = c.args.seats.now in
    let t = c.args.t in
    let tied = tied_inside inside.pending.items inside.order inside.store c.args.self.now seats c.self.view_is c.requires.tied in
    rw (← c.self.view_is) (always_err c.from_residual.result (rows_kept seats inside.pending.items inside.order inside.store c.grant.new.self c.in_err-grant.ensures.unchanged))

pub returns-clause-tied : goal.returns-clause-tied
returns-clause-tied g c =
    let inside = c.self.inside in
    let seats = c.args.seats.now in
    let t = c.args.t in
    let tied = tied_inside inside.pending.items inside.order inside.store c.args.self.now seats c.self.view_is c.requires.tied in
    let home = home_if_enrolled seats inside.pending.items inside.order inside.store tied c.laws-2.ensures.sound t.at t.t c.requires.sits (subst (λ (v : LockParts). is_some (enrolled_in (rows_in seats v) t.t.0) ≡ true) (sym c.self.view_is) c.requires.enrolled) in
    seated_later seats inside.pending.items inside.order inside.store tied c.laws-2.ensures.sound t.at t.t c.requires.sits home _ c.grant.new.self (omega (arith, length-set inside.pending.items t.at None)) c.grant.ensures.seats c.grant.ensures.holders

pub returns-clause-answer : goal.returns-clause-answer
unfolding answer_where
returns-clause-answer g c =
    let inside = c.self.inside in
    let seats = c.args.seats.now in
    let t = c.args.t in
    let tied = tied_inside inside.pending.items inside.order inside.store c.args.self.now seats c.self.view_is c.requires.tied in
    let free = is_free_by seats inside.pending.items inside.order inside.store tied c.laws-2.ensures.sound (λ u. g.A.Allows.allows c.args.permits.now u t.t.0 c.args.x.0 c.args.op) t.t.0 c.args.x.0 c.args.op (c.look-look.ensures.free c.if-look.false) in
    rw (← c.self.view_is) (sym (ap answer_where free))

pub returns-clause-done : goal.returns-clause-done
unfolding after_ask
returns-clause-done g c =
    let inside = c.self.inside in
    let seats = c.args.seats.now in
    let t = c.args.t in
    let tied = tied_inside inside.pending.items inside.order inside.store c.args.self.now seats c.self.view_is c.requires.tied in
    let free = is_free_by seats inside.pending.items inside.order inside.store tied c.laws-2.ensures.sound (λ u. g.A.Allows.allows c.args.permits.now u t.t.0 c.args.x.0 c.args.op) t.t.0 c.args.x.0 c.args.op (c.look-look.ensures.free c.if-look.false) in
    rw (← c.self.view_is)
    (grants seats inside.pending.items inside.order inside.store tied c.laws-2.ensures.sound t.at t.t c.requires.sits c.laws-3.ensures.owners c.grant.new.self c.args.x c.args.op c.in_ok-grant.ensures.own c.in_ok-grant.ensures.others
    ∙ sym (ap (λ (free : Bool). after_ask free t.t.0 c.args.x c.args.op (rows_of seats inside.pending.items inside.order inside.store)) free))
