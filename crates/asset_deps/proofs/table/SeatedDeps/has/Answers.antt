use Rattle.asset_deps.proofs.TableLemmas.{parts_of, tied_inside, found_source, found_dependent}
use Rattle.asset_deps.proofs.table.SeatedDeps.has.Goals as goal

pub returns-then-len : goal.returns-then-len
returns-then-len c =
    let inside = c.self.inside in
    let seats = c.args.seats.now in
    let p = parts_of inside.links seats in
    let tied = tied_inside inside.links inside.marks.size inside.marked c.args.self.now seats c.self.view_is c.requires.tied in
    let a = c.args.a in
    rw (← c.self.view_is)
    (found_source p inside.marks.size inside.marked tied c.args.kind a.t c.args.b.t a.at (λ d other. c.laws.ensures.one a.t a.at d c.requires.source other) c.of-sought.result c.of-sought.ensures
    c.is_there.result c.is_there.ensures.found c.is_there.ensures.absent)

pub returns-else-len : goal.returns-else-len
returns-else-len c =
    let inside = c.self.inside in
    let seats = c.args.seats.now in
    let p = parts_of inside.links seats in
    let tied = tied_inside inside.links inside.marks.size inside.marked c.args.self.now seats c.self.view_is c.requires.tied in
    let b = c.args.b in
    rw (← c.self.view_is)
    (found_dependent p inside.marks.size inside.marked tied c.args.kind c.args.a.t b.t b.at (λ d other. c.laws.ensures.one b.t b.at d c.requires.dependent other) c.of-sought.result c.of-sought.ensures
    c.is_there-else-len.result c.is_there-else-len.ensures.found c.is_there-else-len.ensures.absent)
