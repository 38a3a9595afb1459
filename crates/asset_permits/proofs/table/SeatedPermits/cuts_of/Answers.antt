use Rattle.std.proofs.Common.{ap, take, get_or, arith}
use Rattle.std.proofs.lemmas.List.{take_more}
use Rattle.asset_names.specs.declared.names.Ob.{Ob}
use Rattle.std.specs.List.{list_any}
use Rattle.asset_permits.specs.Valid.{parts_of, descriptors_of}
use Rattle.asset_permits.specs.Copies.{cuts_in}
use Rattle.asset_permits.proofs.CopyLemmas.{cuts_then}
use Rattle.asset_permits.proofs.TableLemmas.{cut_by_seat, takers_sit, tied_inside}
use Rattle.asset_permits.proofs.table.SeatedPermits.cuts_of.Goals as goal

pub moved-init : goal.moved-init
unfolding cuts_in
moved-init c = λ test. ap (list_any test) c.new-cuts.ensures.items

pub moved-preserved : goal.moved-preserved
moved-preserved c =
    let inside = c.self.inside in
    let seats = c.args.seats.now in
    let tied = tied_inside inside.permits inside.marks.size c.args.self.now seats c.self.view_is c.requires.tied in
    let moved = c.args.moved.now in
    let x : Ob = get_or moved c.moved.x-index (record { 0 = 0 }) in
    let more = take_more moved c.moved.x-index (record { 0 = 0 }) (omega arith) in
    λ test.
    rw more (rw (← c.self.view_is) (cuts_then c.args.giver.t.0 (descriptors_of inside.permits.items) (take c.moved.x-index moved) x c.moved.cuts.items c.cut_along.new.cuts.items
    (rw (← c.self.view_is) at c.moved.invariant)
    (cut_by_seat (parts_of inside.permits seats) inside.marks.size tied c.args.giver.t c.args.giver.at c.requires.giver (λ d other. c.laws.ensures.one c.args.giver.t c.args.giver.at d c.requires.giver other) x c.moved.cuts.items c.cut_along.new.cuts.items
    c.cut_along.ensures.kept c.cut_along.ensures.made c.in_ok-cut_along.ensures.all) test))

pub returns-clause-seated : goal.returns-clause-seated
returns-clause-seated c =
    let table = c.args.self.now in
    takers_sit (parts_of table.permits c.args.seats.now) table.size c.requires.tied c.args.giver.t.0 (take c.moved.x-index c.args.moved.now) c.moved.cuts.items c.moved.invariant
