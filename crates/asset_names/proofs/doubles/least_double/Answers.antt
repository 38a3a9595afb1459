use Rattle.std.proofs.Common.{◌≡◌, ◌<◌, ◌≤◌, length, get_or, sym, ◌∙◌, ap, arith}
use Rattle.std.proofs.lemmas.Bool.{false≢true, le-leb, lt-leb}
use Rattle.std.proofs.lemmas.List.{take_all}
use Rattle.asset_names.specs.Arrows.{lists}
use Rattle.asset_names.proofs.DoubleLemmas.{least_twice, least_once, least_found, least_none, map_take, twice_map}
use Rattle.asset_names.proofs.doubles.least_double.Goals as goal
use Rattle.asset_names.proofs.doubles.least_double.Goals.{then-occurrences-ge2, else-occurrences-ge2}

pub items-init : goal.items-init
unfolding lists
items-init g c = λ m h. absurd (false≢true h)

pub items-preserved : goal.items-preserved
items-preserved g c =
    let f = g.I.NamesObject.object_of in
    let items = c.args.items.now in
    let item = c.item-item.result in
    let x = c.object-x.result in
    let below : c.items.item-index < length items = omega arith in
    let named : f (get_or items c.items.item-index item) ≡ x.0 = sym (c.object-x.ensures ∙ ap f c.item-item.is) in
    let is_twice = twice_map f items x.0 c.occurrences.result c.occurrences.ensures in
    let more = map_take f items c.items.item-index item below in
    elim c.if-occurrences-ge2.branch [
      | then-occurrences-ge2 w ↦ rw (more, named, w.found-is, w.lesser.ensures) (least_twice _ _ x c.items.found c.items.invariant (is_twice ∙ le-leb _ _ (omega arith)))
      | else-occurrences-ge2 w ↦ rw (more, named, w.found-is) (least_once _ _ x c.items.found c.items.invariant (is_twice ∙ lt-leb _ _ (omega arith)))
    ]

pub returns-clause-found : goal.returns-clause-found
returns-clause-found g c =
    let all : length c.args.items.now ≤ c.items.item-index = omega arith in
    least_found _ c.items.found (rw take_all at c.items.invariant)

pub returns-clause-none : goal.returns-clause-none
returns-clause-none g c =
    let all : length c.args.items.now ≤ c.items.item-index = omega arith in
    least_none _ c.items.found (rw take_all at c.items.invariant)
