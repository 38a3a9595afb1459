use Rattle.std.proofs.Common.{◌∙◌}
use Rattle.asset_permits.specs.Stored.{asked}
use Rattle.asset_permits.specs.Valid.{parts_of}
use Rattle.asset_permits.proofs.TableLemmas.{found_given, found_taken, tied_inside}
use Rattle.asset_permits.proofs.table.SeatedPermits.has.Goals as goal

pub returns-then-len : goal.returns-then-len
returns-then-len c =
    let inside = c.self.inside in
    let seats = c.args.seats.now in
    let giver = c.args.sought.now.giver in
    let tied = tied_inside inside.permits inside.marks.size c.args.self.now seats c.self.view_is c.requires.tied in
    rw (← c.self.view_is)
    (c.is_some.ensures
    ∙ found_given (parts_of inside.permits seats) inside.marks.size tied (asked c.args.sought.now) giver.at (λ d other. c.laws.ensures.one giver.t giver.at d c.requires.sit.0 other) c.find.result c.find.ensures.found c.find.ensures.absent)

pub returns-else-len : goal.returns-else-len
returns-else-len c =
    let inside = c.self.inside in
    let seats = c.args.seats.now in
    let taker = c.args.sought.now.taker in
    let tied = tied_inside inside.permits inside.marks.size c.args.self.now seats c.self.view_is c.requires.tied in
    rw (← c.self.view_is)
    (c.is_some-else-len.ensures
    ∙ found_taken (parts_of inside.permits seats) inside.marks.size tied (asked c.args.sought.now) taker.at (λ d other. c.laws.ensures.one taker.t taker.at d c.requires.sit.1 other) c.find-else-len.result c.find-else-len.ensures.found c.find-else-len.ensures.absent)
