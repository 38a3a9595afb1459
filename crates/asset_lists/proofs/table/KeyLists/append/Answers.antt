use Rattle.std.proofs.Common.{◌<◌, ◌+◌, length, set, refl, sym, ap, subst, ◌∙◌, arith}
use Rattle.std.proofs.lemmas.List.{length-map}
use Rattle.asset_lists.specs.declared.part.Section.TheVariants.{Back}
use Rattle.asset_lists.specs.declared.rows.Place.{Place}
use Rattle.asset_lists.specs.Parted.{Parted, part_of, IsChangedAt}
use Rattle.asset_lists.specs.Placed.{row_at, part_in, seen}
use Rattle.asset_lists.proofs.RowLemmas.{some_part}
use Rattle.asset_lists.proofs.EndLemmas.{valid_pushed, changed_pushed, if_ok}
use Rattle.asset_lists.proofs.table.KeyLists.append.Goals as goal

pub invariant_of-self-2 : goal.invariant_of-self-2
invariant_of-self-2 c =
    let rows = c.self.inside.rows.items in
    let places = c.self.inside.places.items in
    let row = c.index_mut-row.result.now in
    let list : c.args.list < length rows = subst (λ (t : Parted). c.args.list < t.lists) (sym c.self.view_is) c.requires.list in
    let seen_key : c.args.key < length (seen rows places).parts = subst (λ (t : Parted). c.args.key < length t.parts) (sym c.self.view_is) c.requires.key in
    let key : c.args.key < length places = omega (arith, seen_key, length-map places (λ (place : Place). part_in (row_at rows) place.home place.position)) in
    valid_pushed rows places c.self.invariant c.args.key c.args.list list key (ap (λ (t : Parted). part_of t c.args.key) c.self.view_is ∙ c.requires.free)
    row c.index_mut-row.ensures.value (record { keys = c.push.new.self; front = row.front; back = row.back }) (if_ok c.push.result (sym c.is_err.ensures.value ∙ c.if-is_err.false) c.push.ensures.ok) refl refl
    c.len-position.result c.len-position.ensures.value (omega arith)

pub returns-clause-pushed : goal.returns-clause-pushed
returns-clause-pushed c =
    let rows = c.self.inside.rows.items in
    let places = c.self.inside.places.items in
    let row = c.index_mut-row.result.now in
    let list : c.args.list < length rows = subst (λ (t : Parted). c.args.list < t.lists) (sym c.self.view_is) c.requires.list in
    let seen_key : c.args.key < length (seen rows places).parts = subst (λ (t : Parted). c.args.key < length t.parts) (sym c.self.view_is) c.requires.key in
    let key : c.args.key < length places = omega (arith, seen_key, length-map places (λ (place : Place). part_in (row_at rows) place.home place.position)) in
    subst (λ (t : Parted). IsChangedAt c.args.key (some_part c.args.list Back) t (seen (set rows c.args.list (record { keys = c.push.new.self; front = row.front; back = row.back })) (set places c.args.key (record { home = c.args.list + 1; position = c.len-position.result })))) c.self.view_is
    (changed_pushed rows places c.self.invariant c.args.key c.args.list list key (ap (λ (t : Parted). part_of t c.args.key) c.self.view_is ∙ c.requires.free)
    row c.index_mut-row.ensures.value (record { keys = c.push.new.self; front = row.front; back = row.back }) (if_ok c.push.result (sym c.is_err.ensures.value ∙ c.if-is_err.false) c.push.ensures.ok) refl refl
    c.len-position.result c.len-position.ensures.value (omega arith))
