use Rattle.std.proofs.Common.{◌∙◌, sym}
use Rattle.asset_locks.proofs.SeatLemmas.{shows_same}
use Rattle.asset_ends.proofs.TiedLemmas.{tied_same}
use Rattle.asset_ends.proofs.seating.make_room.Goals as goal

pub returns-in_err-reserve-clause-locks : goal.returns-in_err-reserve-clause-locks
returns-in_err-reserve-clause-locks c = shows_same c.args.locks.now c.args.seats.now c.reserve.new.self c.reserve.ensures.seats

pub returns-in_err-make_room-clause-locks : goal.returns-in_err-make_room-clause-locks
returns-in_err-make_room-clause-locks c = shows_same c.args.locks.now c.args.seats.now c.reserve.new.self c.reserve.ensures.seats

pub returns-in_err-make_room-2-clause-locks : goal.returns-in_err-make_room-2-clause-locks
returns-in_err-make_room-2-clause-locks c = c.make_room-2.ensures.rows c.reserve.new.self ∙ shows_same c.args.locks.now c.args.seats.now c.reserve.new.self c.reserve.ensures.seats

pub returns-in_err-make_room-3-clause-locks : goal.returns-in_err-make_room-3-clause-locks
returns-in_err-make_room-3-clause-locks c = c.make_room-2.ensures.rows c.reserve.new.self ∙ shows_same c.args.locks.now c.args.seats.now c.reserve.new.self c.reserve.ensures.seats

pub returns-in_err-make_room-4-clause-locks : goal.returns-in_err-make_room-4-clause-locks
returns-in_err-make_room-4-clause-locks c = c.make_room-2.ensures.rows c.reserve.new.self ∙ shows_same c.args.locks.now c.args.seats.now c.reserve.new.self c.reserve.ensures.seats

pub returns-clause-locks : goal.returns-clause-locks
returns-clause-locks c = c.make_room-2.ensures.rows c.reserve.new.self ∙ shows_same c.args.locks.now c.args.seats.now c.reserve.new.self c.reserve.ensures.seats

pub returns-in_err-make_room-4-clause-tied : goal.returns-in_err-make_room-4-clause-tied
returns-in_err-make_room-4-clause-tied c =
    let seats = c.args.seats.now in
    tied_same c.make_room.new.self c.make_room-2.new.self c.make_room-3.new.self c.make_room-4.new.self seats c.reserve.new.self
    (record { objects = c.make_room.ensures.tied seats c.requires.tied.objects; locks = c.make_room-2.ensures.tied seats c.requires.tied.locks; permits = c.make_room-3.ensures.tied seats c.requires.tied.permits; deps = c.make_room-4.ensures.tied seats c.requires.tied.deps; numbers = c.make_room-2.ensures.objects ∙ c.requires.tied.numbers ∙ sym c.make_room.ensures.objects }) c.reserve.ensures.seats

pub returns-clause-tied : goal.returns-clause-tied
returns-clause-tied c =
    let seats = c.args.seats.now in
    tied_same c.make_room.new.self c.make_room-2.new.self c.make_room-3.new.self c.make_room-4.new.self seats c.reserve.new.self
    (record { objects = c.make_room.ensures.tied seats c.requires.tied.objects; locks = c.make_room-2.ensures.tied seats c.requires.tied.locks; permits = c.make_room-3.ensures.tied seats c.requires.tied.permits; deps = c.make_room-4.ensures.tied seats c.requires.tied.deps; numbers = c.make_room-2.ensures.objects ∙ c.requires.tied.numbers ∙ sym c.make_room.ensures.objects }) c.reserve.ensures.seats

pub returns-clause-room : goal.returns-clause-room
returns-clause-room c = (sym c.vacant-vacant.ensures, c.in_ok-reserve.ensures.room, record { objects = c.in_ok-make_room.ensures.room; locks = c.in_ok-make_room-2.ensures.room; permits = c.in_ok-make_room-3.ensures.room; deps = c.in_ok-make_room-4.ensures.room })

pub returns-in_err-reserve-clause-tied : goal.returns-in_err-reserve-clause-tied
returns-in_err-reserve-clause-tied c = tied_same c.args.objects.now c.args.locks.now c.args.permits.now c.args.deps.now c.args.seats.now c.reserve.new.self c.requires.tied c.reserve.ensures.seats

pub returns-in_err-make_room-clause-tied : goal.returns-in_err-make_room-clause-tied
returns-in_err-make_room-clause-tied c =
    let seats = c.args.seats.now in
    let tied = c.requires.tied in
    tied_same c.make_room.new.self c.args.locks.now c.args.permits.now c.args.deps.now seats c.reserve.new.self
    (record { objects = c.make_room.ensures.tied seats tied.objects; locks = tied.locks; permits = tied.permits; deps = tied.deps; numbers = tied.numbers ∙ sym c.make_room.ensures.objects }) c.reserve.ensures.seats

pub returns-in_err-make_room-2-clause-tied : goal.returns-in_err-make_room-2-clause-tied
returns-in_err-make_room-2-clause-tied c =
    let seats = c.args.seats.now in
    let tied = c.requires.tied in
    tied_same c.make_room.new.self c.make_room-2.new.self c.args.permits.now c.args.deps.now seats c.reserve.new.self
    (record { objects = c.make_room.ensures.tied seats tied.objects; locks = c.make_room-2.ensures.tied seats tied.locks; permits = tied.permits; deps = tied.deps; numbers = c.make_room-2.ensures.objects ∙ tied.numbers ∙ sym c.make_room.ensures.objects }) c.reserve.ensures.seats

pub returns-in_err-make_room-3-clause-tied : goal.returns-in_err-make_room-3-clause-tied
returns-in_err-make_room-3-clause-tied c =
    let seats = c.args.seats.now in
    let tied = c.requires.tied in
    tied_same c.make_room.new.self c.make_room-2.new.self c.make_room-3.new.self c.args.deps.now seats c.reserve.new.self
    (record { objects = c.make_room.ensures.tied seats tied.objects; locks = c.make_room-2.ensures.tied seats tied.locks; permits = c.make_room-3.ensures.tied seats tied.permits; deps = tied.deps; numbers = c.make_room-2.ensures.objects ∙ tied.numbers ∙ sym c.make_room.ensures.objects }) c.reserve.ensures.seats
