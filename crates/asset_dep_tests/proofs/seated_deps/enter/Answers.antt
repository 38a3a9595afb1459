use Rattle.std.proofs.Common.{arith}
use Rattle.asset_deps.specs.Valid.{HasRoom}
use Rattle.asset_deps.proofs.TableLemmas.{tied_same, tied_sits}
use Rattle.asset_dep_tests.proofs.seated_deps.enter.Goals as goal

pub returns-in_err-make_room : goal.returns-in_err-make_room
returns-in_err-make_room c =
    let seats = c.args.seats.now in
    tied_same c.make_room.new.self seats c.reserve.new.self (c.make_room.ensures.tied seats c.requires) c.reserve.ensures.seats

pub returns : goal.returns
returns c =
    let seats = c.args.seats.now in
    let table = c.make_room.new.self in
    let given = c.sit.ensures.given in
    let vacant = c.vacant-vacant.ensures in
    let room = c.in_ok-make_room.ensures.room in
    let here : HasRoom table c.sit.result = (omega (arith, given, vacant, room.0), omega (arith, given, vacant, room.1), omega (arith, given, vacant, room.2), omega (arith, given, vacant, room.3)) in
    tied_sits table c.reserve.new.self c.sit.new.self c.sit.result c.args.t (tied_same table seats c.reserve.new.self (c.make_room.ensures.tied seats c.requires) c.reserve.ensures.seats) c.sit.ensures.free c.sit.ensures.seats here
