use Rattle.std.proofs.Common.{arith}
use Rattle.asset_objects.proofs.seating.seat_for.Goals as goal

pub returns-clause-tied : goal.returns-clause-tied
returns-clause-tied c =
    c.may_sit.ensures.sits c.sit-at.new.self c.sit-at.result c.args.t c.sit-at.ensures.free
    (c.requires.columns c.sit-at.result (omega (arith, c.laws.ensures.vacant c.free_seat.ensures.room, c.sit-at.ensures.given, c.free_seat.ensures.slots))) c.sit-at.ensures.seats
