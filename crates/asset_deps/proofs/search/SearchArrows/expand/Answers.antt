use Rattle.std.proofs.Common.{◌≡◌, ◌<◌, Bool, sym, ap, subst, ◌∙◌}
use Rattle.asset_names.specs.Arrows.{has_arrow}
use Rattle.asset_chains.specs.declared.side.Side.{Side}
use Rattle.asset_chains.specs.declared.side.Side.TheVariants.{Row, Column}
use Rattle.std.proofs.lemmas.Bool.{or_left, or_right}
use Rattle.asset_names.proofs.DependLemmas.{has_append}
use Rattle.asset_deps.specs.declared.kinds.Kinds.TheVariants.{Class}
use Rattle.asset_deps.specs.Reached.{of_kinds, seat_ways}
use Rattle.asset_chains.specs.Crossed.{Crossed, lines, other_side}
use Rattle.asset_marks.specs.Searched.{arrows_along, Expands}
use Rattle.asset_marks.proofs.WalkLemmas.{expands_both}
use Rattle.asset_deps.proofs.search.SearchArrows.expand.Goals as goal

pub expand_along-requires : goal.expand_along-requires
unfolding seat_ways
expand_along-requires c = λ u t arrow.
    let s = c.args.self.now in
    c.requires u t (has_append (arrows_along (of_kinds s.kinds) s.links.now.items (lines s.side s.links.now) (lines (other_side s.side) s.links.now)) (arrows_along (of_kinds Class) s.links.now.items (lines (other_side s.side) s.links.now) (lines s.side s.links.now)) u t ∙ or_left _ _ arrow)

-- the way back along items
back_along : {D : Type 0} (test : D → Bool) (table : Crossed D) (side back : Side) → back ≡ other_side side
    → arrows_along test table.items (lines back table) (lines (other_side back) table) ≡ arrows_along test table.items (lines (other_side side) table) (lines side table)
back_along test table Row back is = ap (λ (s : Side). arrows_along test table.items (lines s table) (lines (other_side s) table)) is
back_along test table Column back is = ap (λ (s : Side). arrows_along test table.items (lines s table) (lines (other_side s) table)) is

pub expand_along-requires-2 : goal.expand_along-requires-2
unfolding seat_ways
expand_along-requires-2 c = λ u t arrow.
    let s = c.args.self.now in
    let back = back_along (of_kinds Class) s.links.now s.side c.other.result c.other.ensures in
    subst (λ n. t < n) (sym c.expand_along.ensures.size)
    (c.requires u t (has_append (arrows_along (of_kinds s.kinds) s.links.now.items (lines s.side s.links.now) (lines (other_side s.side) s.links.now)) (arrows_along (of_kinds Class) s.links.now.items (lines (other_side s.side) s.links.now) (lines s.side s.links.now)) u t
    ∙ or_right _ _ (ap (λ arrows. has_arrow arrows u t) (sym back) ∙ arrow)))

pub returns-clause-expanded : goal.returns-clause-expanded
unfolding seat_ways
returns-clause-expanded c =
    let s = c.args.self.now in
    let back = back_along (of_kinds Class) s.links.now s.side c.other.result c.other.ensures in
    expands_both _ _ c.args.node c.args.marks.now.nodes c.expand_along.new.marks.nodes c.expand_along-2.new.marks.nodes c.expand_along.ensures.expanded
    (subst (λ arrows. Expands arrows c.args.node c.expand_along.new.marks.nodes c.expand_along-2.new.marks.nodes) back c.expand_along-2.ensures.expanded)
