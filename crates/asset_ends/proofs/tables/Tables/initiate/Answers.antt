use Rattle.std.proofs.Common.{◌≡◌, ap, ◌∙◌}
use Rattle.asset_objects.specs.Cells.{cells}
use Rattle.asset_locks.proofs.SeatLemmas.{shows_sits}
use Rattle.asset_ends.specs.Ended.{locks_of}
use Rattle.asset_ends.proofs.EnrolledLemmas.{initiate_enrolled, initiate_seated, same_seated, new_not_enrolled, new_not_seated}
use Rattle.asset_ends.proofs.ShowsLemmas.{initiate_shows, new_name}
use Rattle.asset_ends.proofs.StandingLemmas.{stand_as}
use Rattle.asset_ends.proofs.TiedLemmas.{tied_sits, enrolled_last}
use Rattle.asset_ends.proofs.tables.Tables.initiate.Goals as goal

pub sit-at-requires-clause-absent : goal.sit-at-requires-clause-absent
sit-at-requires-clause-absent c = new_not_seated _ _ c.make_room.new.seats c.args.t c.self.invariant.seats c.make_room.ensures.seats (rw (← c.self.view_is) at c.requires.new)

pub enrol-requires-clause-tied : goal.enrol-requires-clause-tied
enrol-requires-clause-tied c =
    let room = c.in_ok-seat.ensures.room in
    let given : c.sit-at.result ≡ c.in_ok-seat.seat = c.sit-at.ensures.given ∙ room.0 in
    let absent = new_not_seated _ _ c.make_room.new.seats c.args.t c.self.invariant.seats c.make_room.ensures.seats (rw (← c.self.view_is) at c.requires.new) in
    (tied_sits _ _ _ _ c.make_room.new.seats c.sit-at.new.self c.sit-at.result c.args.t absent c.make_room.ensures.tied (c.may_sit.ensures.sits c.sit-at.new.self c.sit-at.result c.args.t c.sit-at.ensures.free (rw (← given) at room.2).objects c.sit-at.ensures.seats) c.sit-at.ensures.free c.sit-at.ensures.seats (rw (← given) at room.2)).locks

pub invariant_of-self-2 : goal.invariant_of-self-2
invariant_of-self-2 c =
    let seats = c.make_room.new.seats in
    let unknown = rw (← c.self.view_is) at c.requires.new in
    let room = c.in_ok-seat.ensures.room in
    let given : c.sit-at.result ≡ c.in_ok-seat.seat = c.sit-at.ensures.given ∙ room.0 in
    let absent = new_not_seated _ _ seats c.args.t c.self.invariant.seats c.make_room.ensures.seats unknown in
    let tied = tied_sits _ _ _ _ seats c.sit-at.new.self c.sit-at.result c.args.t absent c.make_room.ensures.tied (c.may_sit.ensures.sits c.sit-at.new.self c.sit-at.result c.args.t c.sit-at.ensures.free (rw (← given) at room.2).objects c.sit-at.ensures.seats) c.sit-at.ensures.free c.sit-at.ensures.seats (rw (← given) at room.2) in
    let enrolled = enrolled_last c.make_room.new.locks c.make_room.new.seats c.sit-at.new.self c.args.t (locks_of c.self.inside.parts) _
    (shows_sits c.make_room.new.locks c.make_room.new.seats c.sit-at.new.self c.sit-at.result c.args.t c.sit-at.ensures.free c.sit-at.ensures.seats c.make_room.ensures.tied.locks c.laws.ensures.order) c.make_room.ensures.locks
    (new_not_enrolled _ _ c.args.t.0 c.self.invariant.locks (rw (← c.self.view_is) at c.requires.new)) c.enrol.ensures.done in
    rw (c.in_ok-initiate_at.ensures.done, ← given) (record {
      locks = rw enrolled (initiate_enrolled _ _ c.args.t c.args.parent c.sit-at.result c.in_ok-initiate_at.ensures.absent c.self.invariant.locks);
      seats = initiate_seated _ seats c.sit-at.new.self c.args.t c.args.parent c.sit-at.result c.in_ok-initiate_at.ensures.absent c.sit-at.ensures.free c.sit-at.ensures.seats (same_seated _ c.self.inside.parts.seats seats c.make_room.ensures.seats c.self.invariant.seats);
      tied = record { objects = tied.objects; locks = c.enrol.ensures.tied; permits = tied.permits; deps = tied.deps; numbers = c.enrol.ensures.objects ∙ tied.numbers };
    })

pub returns-clause-stand : goal.returns-clause-stand
returns-clause-stand c =
    let seats = c.make_room.new.seats in
    let unknown = rw (← c.self.view_is) at c.requires.new in
    let enrolled = enrolled_last c.make_room.new.locks c.make_room.new.seats c.sit-at.new.self c.args.t (locks_of c.self.inside.parts) _
    (shows_sits c.make_room.new.locks c.make_room.new.seats c.sit-at.new.self c.sit-at.result c.args.t c.sit-at.ensures.free c.sit-at.ensures.seats c.make_room.ensures.tied.locks c.laws.ensures.order) c.make_room.ensures.locks
    (new_not_enrolled _ _ c.args.t.0 c.self.invariant.locks (rw (← c.self.view_is) at c.requires.new)) c.enrol.ensures.done in
    rw (← c.self.view_is) (λ opening steps stand orderly.
    stand_as opening _ _ _ _ _ _ _ c.in_ok-initiate_at.ensures.done (ap cells c.make_room.ensures.objects) enrolled c.make_room.ensures.permits c.make_room.ensures.dependencies
    (initiate_shows opening steps _ _ _ _ _ c.args.t c.args.parent c.in_ok-seat.seat stand orderly (new_name opening steps _ _ _ _ _ c.args.t.0 stand c.in_ok-initiate_at.ensures.absent)))

pub returns-clause-locks : goal.returns-clause-locks
returns-clause-locks c = rw (← c.self.view_is) (enrolled_last c.make_room.new.locks c.make_room.new.seats c.sit-at.new.self c.args.t (locks_of c.self.inside.parts) _
    (shows_sits c.make_room.new.locks c.make_room.new.seats c.sit-at.new.self c.sit-at.result c.args.t c.sit-at.ensures.free c.sit-at.ensures.seats c.make_room.ensures.tied.locks c.laws.ensures.order) c.make_room.ensures.locks
    (new_not_enrolled _ _ c.args.t.0 c.self.invariant.locks (rw (← c.self.view_is) at c.requires.new)) c.enrol.ensures.done)
