use Rattle.std.proofs.Common.{sym, subst, ◌∙◌}
use Rattle.asset_locks.specs.Tied.{HasRoom}
use Rattle.asset_locks.proofs.SeatLemmas.{either_sits, tied_same, shows_same, tied_sits, shows_sits}
use Rattle.asset_locks.proofs.seating.seat_for.Goals as goal

pub returns-in_err-reserve-clause-tied : goal.returns-in_err-reserve-clause-tied
returns-in_err-reserve-clause-tied c = tied_same c.args.table.now c.args.seats.now c.reserve.new.self c.reserve.ensures.seats c.requires

pub returns-in_err-reserve-clause-rows : goal.returns-in_err-reserve-clause-rows
returns-in_err-reserve-clause-rows c = shows_same c.args.table.now c.args.seats.now c.reserve.new.self c.reserve.ensures.seats

pub returns-in_err-make_room-clause-tied : goal.returns-in_err-make_room-clause-tied
returns-in_err-make_room-clause-tied c = c.make_room.ensures.tied c.reserve.new.self (tied_same c.args.table.now c.args.seats.now c.reserve.new.self c.reserve.ensures.seats c.requires)

pub returns-in_err-make_room-clause-rows : goal.returns-in_err-make_room-clause-rows
returns-in_err-make_room-clause-rows c = c.make_room.ensures.rows c.reserve.new.self ∙ shows_same c.args.table.now c.args.seats.now c.reserve.new.self c.reserve.ensures.seats

pub returns-clause-tied : goal.returns-clause-tied
returns-clause-tied c =
    let seats = c.args.seats.now in
    let more = c.reserve.new.self in
    let roomy = c.make_room.new.self in
    let tied = c.make_room.ensures.tied more (tied_same c.args.table.now seats more c.reserve.ensures.seats c.requires) in
    tied_sits roomy more c.sit-at.new.self c.sit-at.result c.args.t c.sit-at.ensures.free c.sit-at.ensures.seats (λ d there. c.in_default.ensures.absent d (sym (c.reserve.ensures.seats d) ∙ there)) (subst (HasRoom roomy) (c.vacant-vacant.ensures ∙ sym c.sit-at.ensures.given) c.in_ok-make_room.ensures.room) tied

pub returns-clause-rows : goal.returns-clause-rows
returns-clause-rows c =
    let seats = c.args.seats.now in
    let more = c.reserve.new.self in
    let roomy = c.make_room.new.self in
    let tied = c.make_room.ensures.tied more (tied_same c.args.table.now seats more c.reserve.ensures.seats c.requires) in
    shows_sits roomy more c.sit-at.new.self c.sit-at.result c.args.t c.sit-at.ensures.free c.sit-at.ensures.seats tied c.laws-2.ensures.order
    ∙ c.make_room.ensures.rows more
    ∙ shows_same c.args.table.now seats more c.reserve.ensures.seats

pub returns-clause-others : goal.returns-clause-others
returns-clause-others c = λ d u sits. either_sits c.reserve.new.self c.args.seats.now c.sit-at.new.self c.sit-at.result c.args.t c.reserve.ensures.seats c.sit-at.ensures.seats d u sits
