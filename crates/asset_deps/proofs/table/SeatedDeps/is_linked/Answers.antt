use Rattle.std.proofs.Common.{◌≡◌, ◌||◌, false, is_some, sym, ap, ◌∙◌}
use Rattle.asset_chains.specs.declared.side.Side.TheVariants.{Row, Column}
use Rattle.asset_deps.specs.Dependencies.{is_linked_in}
use Rattle.asset_deps.specs.Valid.{dependencies_in}
use Rattle.asset_deps.proofs.AloneLemmas.{class_alone, doom_alone, no_source_alone, linked_by_seat}
use Rattle.asset_deps.proofs.TableLemmas.{parts_of, tied_inside}
use Rattle.asset_deps.proofs.table.SeatedDeps.is_linked.Goals as goal

pub returns-clause-linked : goal.returns-clause-linked
returns-clause-linked c =
    let inside = c.self.inside in
    let seats = c.args.seats.now in
    let tied = tied_inside inside.links inside.marks.size inside.marked c.args.self.now seats c.self.view_is c.requires.tied in
    let t = c.args.t in
    rw (← c.self.view_is)
    ((λ i. (c.is_some-row.ensures ∙ ap is_some c.first.ensures) i || (c.is_some-column.ensures ∙ ap is_some c.first-2.ensures) i)
    ∙ linked_by_seat (parts_of inside.links seats) inside.marks.size inside.marked tied t.t t.at c.requires.sits (λ d other. c.laws.ensures.one t.t t.at d c.requires.sits other)
    (c.laws-2.ensures.crossed.sound Row) (c.laws-2.ensures.crossed.sound Column))

pub returns-clause-alone : goal.returns-clause-alone
returns-clause-alone c =
    let ds = dependencies_in c.args.self.now in
    let t = c.args.t.t.0 in
    λ none n.
    let unlinked : is_linked_in ds t ≡ false = sym (returns-clause-linked c) ∙ none in
    (class_alone ds t n unlinked, doom_alone ds t n unlinked)

pub returns-clause-no_source : goal.returns-clause-no_source
returns-clause-no_source c =
    let inside = c.self.inside in
    let seats = c.args.seats.now in
    let tied = tied_inside inside.links inside.marks.size inside.marked c.args.self.now seats c.self.view_is c.requires.tied in
    λ none.
    let unlinked : is_linked_in (dependencies_in c.args.self.now) c.args.t.t.0 ≡ false = sym (returns-clause-linked c) ∙ none in
    rw (← c.self.view_is) (no_source_alone (parts_of inside.links seats) inside.marks.size inside.marked tied c.args.t.t (rw (← c.self.view_is) at unlinked))
