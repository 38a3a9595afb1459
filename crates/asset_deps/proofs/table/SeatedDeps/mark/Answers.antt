use Rattle.asset_deps.proofs.NamedLemmas.{way_within, valid_marked, marked_reached}
use Rattle.asset_deps.proofs.TableLemmas.{parts_of, tied_inside}
use Rattle.asset_deps.proofs.table.SeatedDeps.mark.Goals as goal

pub spread-requires-clause-within : goal.spread-requires-clause-within
spread-requires-clause-within c = λ u t arrow.
    let inside = c.self.inside in
    let seats = c.args.seats.now in
    let p = parts_of inside.links seats in
    let tied = tied_inside inside.links inside.marks.size inside.marked c.args.self.now seats c.self.view_is c.requires.tied in
    (way_within p inside.marks.size inside.marked tied c.args.kinds u t arrow).1

pub returns-clause-tied : goal.returns-clause-tied
returns-clause-tied c =
    let inside = c.self.inside in
    let seats = c.args.seats.now in
    let p = parts_of inside.links seats in
    let tied = tied_inside inside.links inside.marks.size inside.marked c.args.self.now seats c.self.view_is c.requires.tied in
    valid_marked p inside.marks.size inside.marked c.spread.new.marks tied c.laws.ensures.one c.args.kinds c.args.t.at c.args.t.t c.requires.sits c.spread.ensures.size c.spread.ensures.met

pub returns-clause-marked : goal.returns-clause-marked
returns-clause-marked c =
    let inside = c.self.inside in
    let seats = c.args.seats.now in
    let p = parts_of inside.links seats in
    let tied = tied_inside inside.links inside.marks.size inside.marked c.args.self.now seats c.self.view_is c.requires.tied in
    rw (← c.self.view_is) (marked_reached p inside.marks.size inside.marked c.spread.new.marks tied c.laws.ensures.one c.args.kinds c.args.t.at c.args.t.t c.requires.sits c.spread.ensures.size c.spread.ensures.met)
