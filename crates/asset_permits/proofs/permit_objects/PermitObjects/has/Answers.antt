use Rattle.std.proofs.Common.{◌≡◌, Bool, true, false, ◌||◌, List, refl, sym, ap, ◌∙◌, eqb}
use Rattle.std.specs.List.{list_any}
use Rattle.asset_names.specs.declared.names.Ob.{Ob}
use Rattle.asset_names.specs.Arrows.{lists}
use Rattle.asset_names.specs.Sets.{numbers}
use Rattle.asset_names.specs.InSet.{in_set}
use Rattle.asset_names.proofs.DoubleLemmas.{lists_numbers}
use Rattle.asset_permits.specs.Stored.{set_of}
use Rattle.asset_permits.specs.declared.permit_objects.PermitObjects.{PermitObjects}
use Rattle.asset_permits.proofs.permit_objects.PermitObjects.has.Goals as goal

pub returns-in-All : goal.returns-in-All
unfolding in_set
returns-in-All c = sym (ap (λ (objects : PermitObjects). in_set (set_of objects) c.args.x.0) c.in-All.is)

pub returns-in-One : goal.returns-in-One
unfolding in_set lists numbers
returns-in-One c = sym (plain (eqb c.in-One.only.0 c.args.x.0)) ∙ sym (ap (λ (objects : PermitObjects). in_set (set_of objects) c.args.x.0) c.in-One.is) where
  plain : (b : Bool) → (b || false) ≡ b
  plain true = refl
  plain false = refl

pub returns-in-Listed : goal.returns-in-Listed
unfolding in_set
returns-in-Listed c =
    c.is_listed.ensures
    ∙ ap (λ (l : List Ob). list_any (λ (o : Ob). eqb o.0 c.args.x.0) l) c.deref.ensures.value
    ∙ sym (lists_numbers c.in-Listed.objects.items c.args.x.0)
    ∙ sym (ap (λ (objects : PermitObjects). in_set (set_of objects) c.args.x.0) c.in-Listed.is)
