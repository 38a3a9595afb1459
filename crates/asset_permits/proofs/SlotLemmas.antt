-- The permits that stand, by the slots that have them.
use Rattle.std.proofs.Common.{◌≡◌, ℕ, suc, Bool, true, false, eqb, not, ◌&&◌, ◌||◌, List, [], ◌∷◌, get_or, filter_map, Option, Some, None, refl, ap, ◌∙◌, arith, inl, inr}
use Rattle.std.specs.List.{list_any}
use Rattle.std.proofs.lemmas.Bool.{or_cases, or_left, or_right, and_parts, eqb-true, false≢true, false_from_ne_true}
use Rattle.slab.specs.Slab.{Slab, get, Updates}
use Rattle.asset_names.specs.declared.operations.Op.{Op}
use Rattle.asset_permits.specs.Descriptors.{Descriptor, same_descriptor, stands, lets, one_covers, lets_all, opens, AreDifferent}
use Rattle.asset_permits.specs.Valid.{descriptors_of}
use Rattle.asset_permits.proofs.DescriptorLemmas.{same_is, same_self}
use Rattle.asset_marks.proofs.SlotLemmas.{IsRid, any_has as item_passes, key_of_any as key_of_item, slot_of_any as slot_of_item, any_added as item_added, any_dropped as item_dropped}

-- the permits in some slots
abbrev in_slots : List (Option Descriptor) → List Descriptor
in_slots slots = filter_map (λ (slot : Option Descriptor). slot) slots

-- a permit at a key stands, and one that stands is at a key
pub any_has : (test : Descriptor → Bool) (permits : Slab Descriptor) (k : ℕ) (d : Descriptor) → get permits k ≡ Some d → test d ≡ true → list_any test (descriptors_of permits) ≡ true
unfolding descriptors_of
any_has test permits k d there passes = item_passes test permits k d there passes

pub key_of_any : (test : Descriptor → Bool) (permits : Slab Descriptor) → list_any test (descriptors_of permits) ≡ true → (k : ℕ) × (d : Descriptor) × (get permits k ≡ Some d) × (test d ≡ true)
unfolding descriptors_of
key_of_any test permits h = key_of_item test permits h

pub key_of_standing : (permits : Slab Descriptor) (e : Descriptor) → stands (descriptors_of permits) e ≡ true → (k : ℕ) × (get permits k ≡ Some e)
unfolding stands
key_of_standing permits e h =
    let found = key_of_any (λ (d : Descriptor). same_descriptor d e) permits h in
    (found.0, found.2 ∙ ap Some (same_is found.1 e found.3))

pub stands_at : (permits : Slab Descriptor) (k : ℕ) (e : Descriptor) → get permits k ≡ Some e → stands (descriptors_of permits) e ≡ true
unfolding stands
stands_at permits k e there = any_has (λ (d : Descriptor). same_descriptor d e) permits k e there (same_self e)

-- ---- none stands twice
different_slots : (slots : List (Option Descriptor)) → ((i j : ℕ) (d : Descriptor) → get_or slots i None ≡ Some d → get_or slots j None ≡ Some d → i ≡ j) → AreDifferent (in_slots slots)
unfolding AreDifferent stands
different_slots [] single = tt
different_slots (None ∷ slots) single = different_slots slots (λ i j d here there. omega (arith, single (suc i) (suc j) d here there))
different_slots (Some e ∷ slots) single = (alone, different_slots slots (λ i j d here there. omega (arith, single (suc i) (suc j) d here there))) where
  alone : list_any (λ (d : Descriptor). same_descriptor d e) (in_slots slots) ≡ false
  alone = false_from_ne_true _ (λ h.
      let found = slot_of_item (λ (d : Descriptor). same_descriptor d e) slots h in
      let twice : 0 ≡ suc found.0 = single 0 (suc found.0) e refl (found.2 ∙ ap Some (same_is found.1 e found.3)) in
      absurd (omega (arith, twice)))

pub are_different : (permits : Slab Descriptor) → ((j k : ℕ) (d : Descriptor) → get permits j ≡ Some d → get permits k ≡ Some d → j ≡ k) → AreDifferent (descriptors_of permits)
unfolding descriptors_of
are_different permits single = different_slots permits.slots single

-- ---- one more
pub any_added : (test : Descriptor → Bool) (permits more : Slab Descriptor) (k : ℕ) (d : Descriptor) → get permits k ≡ None → Updates permits more k (Some d)
    → list_any test (descriptors_of more) ≡ (list_any test (descriptors_of permits) || test d)
unfolding descriptors_of
any_added test permits more k d free put = item_added test permits more k d free put

-- ---- some go
-- what is left is what t neither gives nor takes
abbrev pub IsRidOf : ℕ → Slab Descriptor → Slab Descriptor → Type 0
IsRidOf t permits fewer = IsRid (λ (d : Descriptor). d.giver) (λ (d : Descriptor). d.taker) t permits fewer

pub any_dropped : (test : Descriptor → Bool) (t u v : ℕ) (permits fewer : Slab Descriptor) → ((d : Descriptor) → test d ≡ true → d.giver ≡ u) → ((d : Descriptor) → test d ≡ true → d.taker ≡ v) → IsRidOf t permits fewer
    → list_any test (descriptors_of fewer) ≡ (list_any test (descriptors_of permits) && not (eqb u t) && not (eqb v t))
unfolding descriptors_of
any_dropped test t u v permits fewer owns to_taker rid = item_dropped (λ (d : Descriptor). d.giver) (λ (d : Descriptor). d.taker) test t u v permits fewer owns to_taker rid

-- ---- of whom and for whom a descriptor is that passes
pub same_owned : (e d : Descriptor) → same_descriptor d e ≡ true → d.giver ≡ e.giver
same_owned e d same = ap (λ (k : Descriptor). k.giver) (same_is d e same)

pub same_to : (e d : Descriptor) → same_descriptor d e ≡ true → d.taker ≡ e.taker
same_to e d same = ap (λ (k : Descriptor). k.taker) (same_is d e same)

pub lets_owned : (u t x : ℕ) (op : Op) (d : Descriptor) → lets u t x op d ≡ true → d.giver ≡ u
unfolding lets
lets_owned u t x op d h = eqb-true d.giver u (and_parts (eqb d.giver u) _ (and_parts _ _ h).0).0

pub lets_to : (u t x : ℕ) (op : Op) (d : Descriptor) → lets u t x op d ≡ true → d.taker ≡ t
unfolding lets
lets_to u t x op d h = eqb-true d.taker t (and_parts (eqb d.giver u) _ (and_parts _ _ h).0).1

pub lets_all_owned : (u x : ℕ) (op : Op) (d : Descriptor) → lets_all u x op d ≡ true → d.giver ≡ u
unfolding lets_all
lets_all_owned u x op d h = eqb-true d.giver u (and_parts (eqb d.giver u) _ h).0

-- ---- one that stands already
or_has : (p q : Bool) → (q ≡ true → p ≡ true) → p ≡ (p || q)
or_has true q h = refl
or_has false true h = h refl
or_has false false h = refl

any_again : (test : Descriptor → Bool) (d : Descriptor) (descriptors : List Descriptor) → stands descriptors d ≡ true → test d ≡ true → list_any test descriptors ≡ true
unfolding stands
any_again test d [] there passes = absurd (false≢true there)
any_again test d (e ∷ descriptors) there passes =
    elim (or_cases (same_descriptor e d) _ there) [
      | inl here ↦ or_left _ _ (ap test (same_is e d here) ∙ passes)
      | inr later ↦ or_right _ _ (any_again test d descriptors later passes)
    ]

pub stands_again : (descriptors : List Descriptor) (d e : Descriptor) → stands descriptors d ≡ true → stands descriptors e ≡ (stands descriptors e || same_descriptor d e)
unfolding stands
stands_again descriptors d e there = or_has _ (same_descriptor d e) (any_again (λ (k : Descriptor). same_descriptor k e) d descriptors there)

pub covers_again : (descriptors : List Descriptor) (d : Descriptor) (u t x : ℕ) (op : Op) → stands descriptors d ≡ true → one_covers descriptors u t x op ≡ (one_covers descriptors u t x op || lets u t x op d)
unfolding one_covers
covers_again descriptors d u t x op there = or_has _ (lets u t x op d) (any_again (lets u t x op) d descriptors there)

pub opens_again : (descriptors : List Descriptor) (d : Descriptor) (u x : ℕ) (op : Op) → stands descriptors d ≡ true → opens descriptors u x op ≡ (opens descriptors u x op || lets_all u x op d)
unfolding opens
opens_again descriptors d u x op there = or_has _ (lets_all u x op d) (any_again (lets_all u x op) d descriptors there)
