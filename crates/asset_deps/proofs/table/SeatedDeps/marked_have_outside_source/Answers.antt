use Rattle.asset_deps.specs.declared.kinds.Kinds.TheVariants.{Order}
use Rattle.asset_deps.proofs.NamedLemmas.{source_seated}
use Rattle.asset_deps.proofs.OutsideLemmas.{class_marked, outside_is}
use Rattle.asset_deps.proofs.TableLemmas.{parts_of, tied_inside}
use Rattle.asset_deps.proofs.table.SeatedDeps.marked_have_outside_source.Goals as goal

pub leads_outside-requires : goal.leads_outside-requires
leads_outside-requires c = λ u t arrow.
    let inside = c.self.inside in
    let seats = c.args.seats.now in
    let p = parts_of inside.links seats in
    let tied = tied_inside inside.links inside.marks.size inside.marked c.args.self.now seats c.self.view_is c.requires in
    source_seated p inside.marks.size inside.marked tied Order t u arrow

pub returns : goal.returns
returns c =
    let inside = c.self.inside in
    let seats = c.args.seats.now in
    let p = parts_of inside.links seats in
    let tied = tied_inside inside.links inside.marks.size inside.marked c.args.self.now seats c.self.view_is c.requires in
    rw (← c.self.view_is) (λ t is.
    outside_is p inside.marks.size inside.marked tied (record { 0 = t }) inside.marked.nodes (class_marked p inside.marks.size inside.marked tied (record { 0 = t }) c.laws.ensures.one is)
    c.leads_outside.result c.leads_outside.ensures.leads c.leads_outside.ensures.met)
