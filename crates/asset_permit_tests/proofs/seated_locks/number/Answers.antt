use Rattle.std.proofs.Common.{List, eqb, refl, ap, ◌∙◌}
use Rattle.std.specs.List.{position}
use Rattle.asset_names.specs.declared.names.Ob.{Ob}
use Rattle.asset_names.proofs.NumberLemmas.{number_found}
use Rattle.asset_permit_tests.proofs.seated_locks.number.Goals as goal

pub returns : goal.returns
returns c =
    c.place.ensures
    ∙ ap (λ (l : List Ob). position (λ (y : Ob). eqb c.args.x y.0) l) c.objects.ensures
    ∙ number_found _ c.args.x (λ y. refl) c.args.locks.now.store.objects
