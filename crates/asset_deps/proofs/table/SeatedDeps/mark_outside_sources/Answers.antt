use Rattle.std.proofs.Common.{refl}
use Rattle.asset_deps.specs.declared.kinds.Kinds.TheVariants.{Class, Order}
use Rattle.asset_deps.proofs.NamedLemmas.{way_within, source_seated}
use Rattle.asset_deps.proofs.OutsideLemmas.{met_is, members_within, valid_outside, found_named}
use Rattle.asset_deps.proofs.TableLemmas.{parts_of, tied_inside}
use Rattle.asset_deps.proofs.table.SeatedDeps.mark_outside_sources.Goals as goal

pub spread-requires-clause-within : goal.spread-requires-clause-within
spread-requires-clause-within c = λ u t arrow.
    let inside = c.self.inside in
    let seats = c.args.seats.now in
    let p = parts_of inside.links seats in
    let tied = tied_inside inside.links inside.marks.size inside.marked c.args.self.now seats c.self.view_is c.requires.tied in
    (way_within p inside.marks.size inside.marked tied Class u t arrow).0

pub meet_outside-requires-clause-within : goal.meet_outside-requires-clause-within
meet_outside-requires-clause-within c = λ u t arrow.
    let inside = c.self.inside in
    let seats = c.args.seats.now in
    let p = parts_of inside.links seats in
    let tied = tied_inside inside.links inside.marks.size inside.marked c.args.self.now seats c.self.view_is c.requires.tied in
    source_seated p inside.marks.size inside.marked tied Order t u arrow

pub meet_outside-requires-clause-members : goal.meet_outside-requires-clause-members
meet_outside-requires-clause-members c = λ n met.
    let inside = c.self.inside in
    let seats = c.args.seats.now in
    let p = parts_of inside.links seats in
    let tied = tied_inside inside.links inside.marks.size inside.marked c.args.self.now seats c.self.view_is c.requires.tied in
    members_within p inside.marks.size inside.marked tied c.args.t.t c.laws.ensures.one c.args.t.at c.requires.sits c.spread.new.marks.nodes c.spread.ensures.met n met

pub returns-clause-tied : goal.returns-clause-tied
returns-clause-tied c =
    let inside = c.self.inside in
    let seats = c.args.seats.now in
    let p = parts_of inside.links seats in
    let tied = tied_inside inside.links inside.marks.size inside.marked c.args.self.now seats c.self.view_is c.requires.tied in
    valid_outside p inside.marks.size inside.marked tied c.args.t.t c.spread.new.marks.nodes (met_is p inside.marks.size inside.marked tied c.args.t.t c.laws.ensures.one c.args.t.at c.requires.sits c.spread.new.marks.nodes c.spread.ensures.met) c.meet_outside.new.found.nodes c.meet_outside.ensures.met c.meet_outside.ensures.all
    c.spread.new.marks.size c.meet_outside.new.found c.spread.ensures.size c.meet_outside.ensures.size refl

pub returns-clause-marked : goal.returns-clause-marked
returns-clause-marked c =
    let inside = c.self.inside in
    let seats = c.args.seats.now in
    let p = parts_of inside.links seats in
    let tied = tied_inside inside.links inside.marks.size inside.marked c.args.self.now seats c.self.view_is c.requires.tied in
    rw (← c.self.view_is)
    (found_named p inside.marks.size inside.marked tied c.args.t.t c.spread.new.marks.nodes (met_is p inside.marks.size inside.marked tied c.args.t.t c.laws.ensures.one c.args.t.at c.requires.sits c.spread.new.marks.nodes c.spread.ensures.met) c.meet_outside.new.found.nodes c.meet_outside.ensures.met c.meet_outside.ensures.all)
