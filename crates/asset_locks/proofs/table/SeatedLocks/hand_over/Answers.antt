use Rattle.std.proofs.Common.{◌≡◌, true, is_some, sym, subst, ◌∙◌, arith}
use Rattle.asset_locks.specs.LockTable.{enrolled_in}
use Rattle.asset_locks.specs.Tied.{LockParts, rows_in}
use Rattle.asset_locks.proofs.TableLemmas.{home_if_enrolled, seated_later, tied_inside}
use Rattle.asset_locks.proofs.HandedRows.{hands_to_itself, two_seats, hands_over}
use Rattle.asset_locks.proofs.table.SeatedLocks.hand_over.Goals as goal

pub returns-then-eq-clause-done : goal.returns-then-eq-clause-done
returns-then-eq-clause-done c = hands_to_itself c.args.giver.t.0 c.args.taker.t.0 c.args.objects.now (rows_in c.args.seats.now c.args.self.now) (sym c.eq.ensures ∙ c.if-eq.true)

pub hand_over-requires-clause-apart : goal.hand_over-requires-clause-apart
hand_over-requires-clause-apart c = two_seats c.args.seats.now c.args.giver.at c.args.taker.at c.args.giver.t c.args.taker.t c.requires.giver_sits c.requires.taker_sits (sym c.eq.ensures ∙ c.if-eq.false)

pub hand_over-requires-clause-seat : goal.hand_over-requires-clause-seat
hand_over-requires-clause-seat c =
    let inside = c.self.inside in
    let tied = tied_inside inside.pending.items inside.order inside.store c.args.self.now c.args.seats.now c.self.view_is c.requires.tied in
    (tied.places c.args.taker.at c.args.taker.t c.requires.taker_sits).locks

pub returns-clause-tied : goal.returns-clause-tied
returns-clause-tied c =
    let inside = c.self.inside in
    let seats = c.args.seats.now in
    let taker = c.args.taker in
    let tied = tied_inside inside.pending.items inside.order inside.store c.args.self.now seats c.self.view_is c.requires.tied in
    let home = home_if_enrolled seats inside.pending.items inside.order inside.store tied c.laws-2.ensures.sound taker.at taker.t c.requires.taker_sits (subst (λ (v : LockParts). is_some (enrolled_in (rows_in seats v) taker.t.0) ≡ true) (sym c.self.view_is) c.requires.taker) in
    seated_later seats inside.pending.items inside.order inside.store tied c.laws-2.ensures.sound taker.at taker.t c.requires.taker_sits home inside.pending.items c.hand_over.new.self
    (omega arith) (omega (arith, c.hand_over.ensures.seats)) c.hand_over.ensures.holders

pub returns-clause-done : goal.returns-clause-done
returns-clause-done c =
    let inside = c.self.inside in
    let seats = c.args.seats.now in
    let giver = c.args.giver in
    let taker = c.args.taker in
    let tied = tied_inside inside.pending.items inside.order inside.store c.args.self.now seats c.self.view_is c.requires.tied in
    let home = home_if_enrolled seats inside.pending.items inside.order inside.store tied c.laws-2.ensures.sound giver.at giver.t c.requires.giver_sits (subst (λ (v : LockParts). is_some (enrolled_in (rows_in seats v) giver.t.0) ≡ true) (sym c.self.view_is) c.requires.giver) in
    rw (← c.self.view_is)
    (hands_over seats inside.pending.items inside.order inside.store c.hand_over.new.self tied c.laws-2.ensures.sound c.args.objects.now giver.at taker.at giver.t taker.t c.requires.giver_sits home c.requires.taker_sits (sym c.eq.ensures ∙ c.if-eq.false)
    c.hand_over.ensures.giver c.hand_over.ensures.taker c.hand_over.ensures.others)
