-- Dependencies that say the same are one, and none is stored twice.
use Rattle.std.proofs.Common.{◌≡◌, ℕ, suc, true, false, List, [], ◌∷◌, filter_map, get_or, Option, Some, None, refl, sym, ap, arith}
use Rattle.std.specs.List.{AllByRecursion, IsDistinct}
use Rattle.std.proofs.lemmas.Bool.{and_from, and_parts, eqb-true, eq-eqb, false≢true, false_from_ne_true}
use Rattle.std.proofs.lemmas.Map.Keys.{IsDistinct-cons}
use Rattle.slab.specs.Slab.{Slab, get}
use Rattle.asset_names.specs.declared.steps.Kind.{Kind}
use Rattle.asset_names.specs.declared.steps.Kind.TheVariants.{Cd, Ad, Gc}
use Rattle.asset_names.specs.Paths.{same_kind}
use Rattle.asset_deps.specs.Dependencies.{Dependency, same_dependency}
use Rattle.asset_deps.specs.Valid.{dependencies_of}

pub kind_is : (k l : Kind) → same_kind k l ≡ true → k ≡ l
unfolding same_kind
kind_is Cd Cd h = refl
kind_is Cd Ad h = absurd (false≢true h)
kind_is Cd Gc h = absurd (false≢true h)
kind_is Ad Cd h = absurd (false≢true h)
kind_is Ad Ad h = refl
kind_is Ad Gc h = absurd (false≢true h)
kind_is Gc Cd h = absurd (false≢true h)
kind_is Gc Ad h = absurd (false≢true h)
kind_is Gc Gc h = refl

pub kind_self : (k : Kind) → same_kind k k ≡ true
unfolding same_kind
kind_self Cd = refl
kind_self Ad = refl
kind_self Gc = refl

pub same_is : (d e : Dependency) → same_dependency d e ≡ true → d ≡ e
unfolding same_dependency
same_is d e h =
    let all = and_parts _ _ h in
    let first = and_parts _ _ all.0 in
    let kind = kind_is d.kind e.kind first.0 in
    let source = eqb-true d.source e.source first.1 in
    let dependent = eqb-true d.dependent e.dependent all.1 in
    λ i. record { kind = kind i; source = source i; dependent = dependent i }

pub same_self : (d : Dependency) → same_dependency d d ≡ true
unfolding same_dependency
same_self d = and_from _ _ (and_from _ _ (kind_self d.kind) (eq-eqb d.source d.source refl)) (eq-eqb d.dependent d.dependent refl)

-- ---- none is stored twice
stored : List (Option Dependency) → List Dependency
stored slots = filter_map (λ (slot : Option Dependency). slot) slots

apart : (d : Dependency) (slots : List (Option Dependency)) → ((j : ℕ) → get_or slots j None ≡ Some d → ⊥) → AllByRecursion (λ e. same_dependency d e ≡ false) (stored slots)
unfolding stored
apart d [] absent = tt
apart d (None ∷ slots) absent = apart d slots (λ j there. absent (suc j) there)
apart d (Some e ∷ slots) absent = (false_from_ne_true _ (λ same. absent 0 (ap Some (sym (same_is d e same)))), apart d slots (λ j there. absent (suc j) there))

different_slots : (slots : List (Option Dependency)) → ((i j : ℕ) (d : Dependency) → get_or slots i None ≡ Some d → get_or slots j None ≡ Some d → i ≡ j) → IsDistinct same_dependency (stored slots)
unfolding stored IsDistinct
different_slots [] single = tt
different_slots (None ∷ slots) single = different_slots slots (λ i j d here there. omega (arith, single (suc i) (suc j) d here there))
different_slots (Some e ∷ slots) single = IsDistinct-cons same_dependency e (stored slots)
    (apart e slots (λ j there. let twice : 0 ≡ suc j = single 0 (suc j) e refl there in absurd (omega (arith, twice))))
    (different_slots slots (λ i j d here there. omega (arith, single (suc i) (suc j) d here there)))

pub are_different : (links : Slab Dependency) → ((j k : ℕ) (d : Dependency) → get links j ≡ Some d → get links k ≡ Some d → j ≡ k) → IsDistinct same_dependency (dependencies_of links)
unfolding dependencies_of stored
are_different links single = different_slots links.slots single
