use Rattle.std.proofs.Common.{sym, ◌∙◌}
use Rattle.asset_deps.proofs.NamedLemmas.{way_within, way_from_within, way_back, linked_named, linked_back}
use Rattle.asset_deps.proofs.TableLemmas.{parts_of, tied_inside}
use Rattle.asset_deps.proofs.table.SeatedDeps.is_another_reached.Goals as goal

pub is_linked_either_way-requires-clause-within : goal.is_linked_either_way-requires-clause-within
is_linked_either_way-requires-clause-within c = λ u t arrow.
    let inside = c.self.inside in
    let seats = c.args.seats.now in
    let p = parts_of inside.links seats in
    let tied = tied_inside inside.links inside.marks.size inside.marked c.args.self.now seats c.self.view_is c.requires.tied in
    (way_within p inside.marks.size inside.marked tied c.args.kinds u t arrow).0

pub is_linked_either_way-requires-clause-back_within : goal.is_linked_either_way-requires-clause-back_within
is_linked_either_way-requires-clause-back_within c = λ u t arrow.
    let inside = c.self.inside in
    let seats = c.args.seats.now in
    let p = parts_of inside.links seats in
    let tied = tied_inside inside.links inside.marks.size inside.marked c.args.self.now seats c.self.view_is c.requires.tied in
    way_from_within p inside.marks.size inside.marked tied c.args.kinds t u (sym (way_back c.args.kinds inside.links.items inside.links.rows inside.links.columns u t) ∙ arrow)

pub is_linked_either_way-requires-clause-back : goal.is_linked_either_way-requires-clause-back
is_linked_either_way-requires-clause-back c =
    let links = c.self.inside.links in
    linked_back c.args.kinds links.items links.rows links.columns c.args.a.at c.args.b.at

pub is_linked_either_way-requires-else-at_from-at_to-clause-within : goal.is_linked_either_way-requires-else-at_from-at_to-clause-within
is_linked_either_way-requires-else-at_from-at_to-clause-within c = λ u t arrow.
    let inside = c.self.inside in
    let seats = c.args.seats.now in
    let p = parts_of inside.links seats in
    let tied = tied_inside inside.links inside.marks.size inside.marked c.args.self.now seats c.self.view_is c.requires.tied in
    way_from_within p inside.marks.size inside.marked tied c.args.kinds t u (sym (way_back c.args.kinds inside.links.items inside.links.rows inside.links.columns u t) ∙ arrow)

pub is_linked_either_way-requires-else-at_from-at_to-clause-back_within : goal.is_linked_either_way-requires-else-at_from-at_to-clause-back_within
is_linked_either_way-requires-else-at_from-at_to-clause-back_within c = λ u t arrow.
    let inside = c.self.inside in
    let seats = c.args.seats.now in
    let p = parts_of inside.links seats in
    let tied = tied_inside inside.links inside.marks.size inside.marked c.args.self.now seats c.self.view_is c.requires.tied in
    (way_within p inside.marks.size inside.marked tied c.args.kinds u t arrow).0

pub is_linked_either_way-requires-else-at_from-at_to-clause-back : goal.is_linked_either_way-requires-else-at_from-at_to-clause-back
is_linked_either_way-requires-else-at_from-at_to-clause-back c =
    let links = c.self.inside.links in
    sym (linked_back c.args.kinds links.items links.rows links.columns c.args.a.at c.args.b.at)

pub returns-then-at_from-at_to-clause-reached : goal.returns-then-at_from-at_to-clause-reached
returns-then-at_from-at_to-clause-reached c =
    let inside = c.self.inside in
    let seats = c.args.seats.now in
    let p = parts_of inside.links seats in
    let tied = tied_inside inside.links inside.marks.size inside.marked c.args.self.now seats c.self.view_is c.requires.tied in
    rw (← c.self.view_is)
    (c.is_linked_either_way.ensures.is_linked ∙ linked_named p inside.marks.size inside.marked tied c.laws.ensures.one c.args.kinds c.args.a.at c.args.b.at c.args.a.t c.args.b.t c.requires.source c.requires.dependent)

pub returns-else-at_from-at_to-clause-reached : goal.returns-else-at_from-at_to-clause-reached
returns-else-at_from-at_to-clause-reached c =
    let inside = c.self.inside in
    let seats = c.args.seats.now in
    let p = parts_of inside.links seats in
    let tied = tied_inside inside.links inside.marks.size inside.marked c.args.self.now seats c.self.view_is c.requires.tied in
    rw (← c.self.view_is)
    (c.is_linked_either_way-else-at_from-at_to.ensures.is_linked
    ∙ linked_back c.args.kinds inside.links.items inside.links.rows inside.links.columns c.args.a.at c.args.b.at
    ∙ linked_named p inside.marks.size inside.marked tied c.laws.ensures.one c.args.kinds c.args.a.at c.args.b.at c.args.a.t c.args.b.t c.requires.source c.requires.dependent)
