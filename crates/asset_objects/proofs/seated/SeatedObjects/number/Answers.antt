use Rattle.std.proofs.Common.{refl, is_some, sym, ap, ◌∙◌}
use Rattle.asset_names.proofs.NumberLemmas.{number_found}
use Rattle.asset_records.specs.Listed.{lists_in}
use Rattle.asset_objects.specs.Placed.{objects_in}
use Rattle.asset_objects.proofs.PlacedLemmas.{has_index}
use Rattle.asset_objects.proofs.seated.SeatedObjects.number.Goals as goal

pub returns-clause-number : goal.returns-clause-number
returns-clause-number c = rw (← c.self.view_is) (c.get_index_of.ensures.index ∙ number_found _ c.args.x.0 (λ y. refl) c.self.inside.placed.objects.keys)

pub returns-clause-exists : goal.returns-clause-exists
returns-clause-exists c =
    let placed = c.self.inside.placed in
    ap is_some (c.get_index_of.ensures.index ∙ number_found _ c.args.x.0 (λ y. refl) placed.objects.keys)
    ∙ sym (has_index placed.objects.keys placed.values.items (lists_in placed.records) c.self.inside.reserved c.self.inside.visits (objects_in c.args.self.now) c.args.x.0 (ap objects_in c.self.view_is))
