use Rattle.std.proofs.Common.{◌||◌, eqb, refl, sym, ap, ◌∙◌, arith}
use Rattle.asset_names.specs.Arrows.{lists}
use Rattle.asset_names.proofs.Common.{always_err}
use Rattle.asset_deps.specs.Dependencies.{DepTable}
use Rattle.asset_deps.specs.Valid.{marked_of, HasRoom}
use Rattle.asset_deps.proofs.SeatLemmas.{names_same, names_enrolled, marked_same, marked_kept, not_named}
use Rattle.asset_deps.proofs.TableLemmas.{shows_same, tied_same, tied_sits}
use Rattle.asset_deps.proofs.deps.Deps.enrol.Goals as goal

pub returns-in_err-reserve-clause-marked : goal.returns-in_err-reserve-clause-marked
returns-in_err-reserve-clause-marked c = let inside = c.self.inside in rw (← c.self.view_is) (marked_same inside.seats c.reserve.new.self inside.table.marked.nodes (λ d listed. c.reserve.ensures.seats d))

pub returns-in_err-reserve-clause-unchanged : goal.returns-in_err-reserve-clause-unchanged
returns-in_err-reserve-clause-unchanged c =
    let inside = c.self.inside in
    always_err c.from_residual.result (shows_same inside.seats c.reserve.new.self inside.table inside.table c.reserve.ensures.seats refl refl ∙ c.self.view_is)

pub returns-in_err-make_room-clause-marked : goal.returns-in_err-make_room-clause-marked
returns-in_err-make_room-clause-marked c =
    let inside = c.self.inside in
    rw (← c.self.view_is) (ap (marked_of c.reserve.new.self) c.make_room.ensures.marked ∙ marked_same inside.seats c.reserve.new.self inside.table.marked.nodes (λ d listed. c.reserve.ensures.seats d))

pub returns-in_err-make_room-clause-unchanged : goal.returns-in_err-make_room-clause-unchanged
returns-in_err-make_room-clause-unchanged c =
    let inside = c.self.inside in
    always_err c.from_residual-in_err-make_room.result (shows_same inside.seats c.reserve.new.self inside.table c.make_room.new.self c.reserve.ensures.seats c.make_room.ensures.dependencies c.make_room.ensures.marked ∙ c.self.view_is)

pub invariant_of-self-in_err-make_room : goal.invariant_of-self-in_err-make_room
invariant_of-self-in_err-make_room c =
    let inside = c.self.inside in
    tied_same c.make_room.new.self inside.seats c.reserve.new.self (c.make_room.ensures.tied inside.seats c.self.invariant) c.reserve.ensures.seats

pub sit-requires-clause-absent : goal.sit-requires-clause-absent
sit-requires-clause-absent c = λ d sat.
    let inside = c.self.inside in
    not_named inside.seats c.args.t (ap (λ (p : DepTable). lists p.names c.args.t.0) c.self.view_is ∙ sym c.is_enrolled.ensures.enrolled ∙ c.if-is_enrolled.false) d (sym (c.reserve.ensures.seats d) ∙ sat)

pub returns-clause-names : goal.returns-clause-names
returns-clause-names c = λ n.
    let inside = c.self.inside in
    let same = names_same inside.seats c.reserve.new.self c.reserve.ensures.seats in
    rw (← c.self.view_is) (names_enrolled c.reserve.new.self c.sit.new.self c.sit.result c.args.t c.sit.ensures.free c.sit.ensures.seats n ∙ ap (λ names. lists names n || eqb n c.args.t.0) same)

pub returns-clause-marked : goal.returns-clause-marked
returns-clause-marked c =
    let inside = c.self.inside in
    rw (← c.self.view_is)
    (ap (marked_of c.sit.new.self) c.make_room.ensures.marked
    ∙ marked_kept inside.seats c.reserve.new.self c.sit.new.self inside.table.marked.nodes c.sit.result c.args.t c.self.invariant.taken c.reserve.ensures.seats c.sit.ensures.free c.sit.ensures.seats)

pub invariant_of-self-2 : goal.invariant_of-self-2
invariant_of-self-2 c =
    let inside = c.self.inside in
    let table = c.make_room.new.self in
    let given = c.sit.ensures.given in
    let vacant = c.vacant-vacant.ensures in
    let room = c.in_ok-make_room.ensures.room in
    let here : HasRoom table c.sit.result = (omega (arith, given, vacant, room.0), omega (arith, given, vacant, room.1), omega (arith, given, vacant, room.2), omega (arith, given, vacant, room.3)) in
    tied_sits table c.reserve.new.self c.sit.new.self c.sit.result c.args.t (tied_same table inside.seats c.reserve.new.self (c.make_room.ensures.tied inside.seats c.self.invariant) c.reserve.ensures.seats) c.sit.ensures.free c.sit.ensures.seats here
