use Rattle.std.proofs.Common.{◌≡◌, ◌-◌, ap, ◌∙◌, sym, suc, arith}
use Rattle.std.proofs.lemmas.List.{get_or_read, get_or_past}
use Rattle.asset_lists.specs.declared.rows.Place.{Place}
use Rattle.asset_lists.specs.declared.rows.Row.{Row}
use Rattle.asset_lists.specs.Parted.{Parted, part_of}
use Rattle.asset_lists.specs.Placed.{no_place, no_row, section_at, place_at, row_at}
use Rattle.asset_lists.proofs.RowLemmas.{some_part, in_rows}
use Rattle.asset_lists.proofs.PartLemmas.{decoded, part_read, part_free}
use Rattle.asset_lists.proofs.table.KeyLists.part.Goals as goal

pub returns-then-key-len : goal.returns-then-key-len
returns-then-key-len c =
    let places = c.self.inside.places.items in
    let past : place_at places c.args.key ≡ no_place = get_or_past places c.args.key no_place (omega arith) in
    sym (part_free c.self.inside.rows.items places c.self.invariant c.args.key (ap (λ (p : Place). p.home) past)) ∙ ap (λ (t : Parted). part_of t c.args.key) c.self.view_is

pub returns-then-place-eq0 : goal.returns-then-place-eq0
returns-then-place-eq0 c =
    let places = c.self.inside.places.items in
    let read : c.index-place.result.now ≡ place_at places c.args.key = get_or_read places c.args.key c.index-place.result.now (omega arith) c.index-place.ensures no_place in
    sym (part_free c.self.inside.rows.items places c.self.invariant c.args.key (sym (ap (λ (p : Place). p.home) read) ∙ c.if-place-eq0.true)) ∙ ap (λ (t : Parted). part_of t c.args.key) c.self.view_is

pub index-requires : goal.index-requires
index-requires c =
    let rows = c.self.inside.rows.items in
    let places = c.self.inside.places.items in
    let place = c.index-place.result.now in
    let read : place ≡ place_at places c.args.key = get_or_read places c.args.key place (omega arith) c.index-place.ensures no_place in
    let home : (place_at places c.args.key).home ≡ suc (place.home - 1) = sym (ap (λ (p : Place). p.home) read) ∙ decoded place.home c.if-place-eq0.false in
    omega (arith, in_rows rows (place.home - 1) (place_at places c.args.key).position c.args.key (c.self.invariant.placed.placed c.args.key (place.home - 1) home))

pub returns : goal.returns
returns c =
    let rows = c.self.inside.rows.items in
    let places = c.self.inside.places.items in
    let place = c.index-place.result.now in
    let read : place ≡ place_at places c.args.key = get_or_read places c.args.key place (omega arith) c.index-place.ensures no_place in
    let home : (place_at places c.args.key).home ≡ suc (place.home - 1) = sym (ap (λ (p : Place). p.home) read) ∙ decoded place.home c.if-place-eq0.false in
    let row : c.index.result.now ≡ row_at rows (place.home - 1) = get_or_read rows (place.home - 1) c.index.result.now (in_rows rows (place.home - 1) (place_at places c.args.key).position c.args.key (c.self.invariant.placed.placed c.args.key (place.home - 1) home)) c.index.ensures no_row in
    ap (some_part (place.home - 1)) c.section_at-section.ensures
    ∙ ap (λ (r : Row). some_part (place.home - 1) (section_at r place.position)) row
    ∙ sym (part_read rows places c.self.invariant c.args.key place read c.if-place-eq0.false) ∙ ap (λ (t : Parted). part_of t c.args.key) c.self.view_is
