use Rattle.std.proofs.Common.{◌≡◌, ℕ, ◌<◌, length, Some, sym, ap, ◌∙◌, w64, to_z, of_z, arith}
use Rattle.std.proofs.lemmas.Int.{to_z-of_z, int_wrap_fits}
use Rattle.std.specs.Option.{option_map}
use Rattle.asset_names.specs.Numbered.{number_in}
use Rattle.asset_records.specs.Listed.{lists_in}
use Rattle.asset_objects.specs.Placed.{word, value_at, ObjectParts, objects_in}
use Rattle.asset_objects.proofs.PlacedLemmas.{value_found, read_value}
use Rattle.asset_objects.proofs.seated.SeatedObjects.value_at.Goals as goal

pub index-requires : goal.index-requires
index-requires c = omega (arith, c.requires, ap (λ (p : ObjectParts). length p.objects) c.self.view_is, c.self.invariant.valued)

pub returns : goal.returns
returns c = λ x there.
    let placed = c.self.inside.placed in
    let number = ap (λ (p : ObjectParts). number_in p.objects x) c.self.view_is ∙ there in
    let within : c.args.number < length placed.values.items = omega (arith, c.requires, ap (λ (p : ObjectParts). length p.objects) c.self.view_is, c.self.invariant.valued) in
    let fits : to_z w64 (of_z w64 c.index.result.now) ≡ c.index.result.now = grind (arith, to_z-of_z) in
    let small : word c.index.result.now ≡ c.index.result.now = grind (arith, int_wrap_fits) in
    value_found placed.objects.keys placed.values.items (lists_in placed.records) c.self.inside.reserved c.self.inside.visits (objects_in c.args.self.now) x (ap objects_in c.self.view_is)
    ∙ ap (option_map (λ (i : ℕ). word (value_at placed.values.items i))) number
    ∙ ap Some (sym (fits ∙ sym small ∙ ap word (read_value placed.values.items c.args.number c.index.result.now within c.index.ensures)))
