use Rattle.std.proofs.Common.{◌<◌, sym, subst}
use Rattle.asset_deps.specs.declared.kinds.Kinds.TheVariants.{Class, Order}
use Rattle.asset_deps.proofs.NamedLemmas.{way_within, source_within}
use Rattle.asset_deps.proofs.OutsideLemmas.{met_is, outside_is}
use Rattle.asset_deps.proofs.TableLemmas.{parts_of, tied_inside}
use Rattle.asset_deps.proofs.table.SeatedDeps.has_outside_source.Goals as goal

pub spread-requires-clause-within : goal.spread-requires-clause-within
spread-requires-clause-within c = λ u t arrow.
    let inside = c.self.inside in
    let seats = c.args.seats.now in
    let p = parts_of inside.links seats in
    let tied = tied_inside inside.links inside.marks.size inside.marked c.args.self.now seats c.self.view_is c.requires.tied in
    (way_within p inside.marks.size inside.marked tied Class u t arrow).0

pub leads_outside-requires : goal.leads_outside-requires
leads_outside-requires c = λ u t arrow.
    let inside = c.self.inside in
    let seats = c.args.seats.now in
    let p = parts_of inside.links seats in
    let tied = tied_inside inside.links inside.marks.size inside.marked c.args.self.now seats c.self.view_is c.requires.tied in
    subst (λ n. t < n) (sym c.spread.ensures.size) (source_within p inside.marks.size inside.marked tied Order t u arrow)

pub returns-clause-outside : goal.returns-clause-outside
returns-clause-outside c =
    let inside = c.self.inside in
    let seats = c.args.seats.now in
    let p = parts_of inside.links seats in
    let tied = tied_inside inside.links inside.marks.size inside.marked c.args.self.now seats c.self.view_is c.requires.tied in
    rw (← c.self.view_is)
    (outside_is p inside.marks.size inside.marked tied c.args.t.t c.spread.new.marks.nodes (met_is p inside.marks.size inside.marked tied c.args.t.t c.laws.ensures.one c.args.t.at c.requires.sits c.spread.new.marks.nodes c.spread.ensures.met) c.leads_outside.result c.leads_outside.ensures.leads c.leads_outside.ensures.met)
