-- Who gives permits.
use Rattle.std.proofs.Common.{◌≡◌, ℕ, false, eqb, List, [], ◌∷◌, Option, Some, None, is_some, sym, ap, ◌∙◌, inl, inr}
use Rattle.std.proofs.lemmas.Bool.{eqb-true, eq-eqb, or_cases, or_left, or_right, true≢false, false_from_ne_true}
use Rattle.std.specs.List.{list_any}
use Rattle.slab.specs.Slab.{get}
use Rattle.asset_names.specs.declared.names.Txn.{Txn}
use Rattle.asset_names.specs.declared.operations.Op.{Op}
use Rattle.asset_names.proofs.Common.{both_follow, some_of}
use Rattle.asset_chains.specs.Chained.{chain_of, first_of, IsConsistent}
use Rattle.asset_chains.proofs.KeyLemmas.{first_listed, first_is_some}
use Rattle.asset_seats.specs.Seated.{seat}
use Rattle.asset_permits.specs.Descriptors.{Descriptor, gives, lets, lets_all, one_covers, opens}
use Rattle.asset_permits.specs.Valid.{Parts, descriptors_of, IsValid}
use Rattle.asset_permits.proofs.SeatLemmas.{home_along}
use Rattle.asset_permits.proofs.SlotLemmas.{any_has, key_of_any, lets_owned, lets_all_owned}

-- who has no seat gives nothing
pub gives_by_nobody : (p : Parts) (size : ℕ) → IsValid p size → (giver : Txn) → ((c : ℕ) → seat p.seats c ≡ Some giver → ⊥) → gives giver.0 (descriptors_of p.permits) ≡ false
unfolding gives
gives_by_nobody p size valid giver absent = false_from_ne_true _ (λ given.
    let found = key_of_any (λ (d : Descriptor). eqb d.giver giver.0) p.permits given in
    let home = home_along p found.0 found.1 valid.seated found.2 in
    absent home.0 (valid.given found.0 home.0 found.1 found.2 home.1 ∙ (λ i. Some (record { 0 = eqb-true found.1.giver giver.0 found.3 i }))))

abbrev number : Option Txn → ℕ
number None = 0
number (Some t) = t.0

abbrev named : ℕ → Option Txn
named t = Some (record { 0 = t })

-- who has a seat gives something exactly if there is a permit in the chain of its seat
pub gives_by_seat : (p : Parts) (size : ℕ) → IsValid p size → IsConsistent p.along → (giver : Txn) (from : ℕ) → seat p.seats from ≡ Some giver → ((c : ℕ) → seat p.seats c ≡ Some giver → c ≡ from)
    → is_some (first_of (chain_of p.along from)) ≡ gives giver.0 (descriptors_of p.permits)
unfolding gives
gives_by_seat p size valid sound giver from sits alone = both_follow _ _
    (λ some.
    let key = some_of (first_of (chain_of p.along from)) some in
    let home = sound.at_home from key.0 (first_listed key.0 (chain_of p.along from) key.1) in
    let permit = some_of (get p.permits key.0) (valid.seated.along key.0 ∙ ap is_some home) in
    any_has (λ (d : Descriptor). eqb d.giver giver.0) p.permits key.0 permit.0 permit.1 (eq-eqb permit.0.giver giver.0 (one_giver permit.0.giver giver.0 (sym (valid.given key.0 from permit.0 permit.1 home) ∙ sits))))
    (λ given.
    let found = key_of_any (λ (d : Descriptor). eqb d.giver giver.0) p.permits given in
    let home = home_along p found.0 found.1 valid.seated found.2 in
    let here : home.0 ≡ from = alone home.0 (valid.given found.0 home.0 found.1 found.2 home.1 ∙ (λ i. Some (record { 0 = eqb-true found.1.giver giver.0 found.3 i }))) in
    first_is_some (chain_of p.along from) found.0 (sound.listed from found.0 (home.1 ∙ ap Some here))) where
      one_giver : (a b : ℕ) → named a ≡ named b → a ≡ b
      one_giver a b e = ap number e

-- who gives nothing lets nobody do anything
pub gives_nothing : (descriptors : List Descriptor) (giver t x : ℕ) (op : Op) → gives giver descriptors ≡ false → one_covers descriptors giver t x op ≡ false
unfolding gives one_covers
gives_nothing [] giver t x op none = none
gives_nothing (d ∷ descriptors) giver t x op none = false_from_ne_true _ (λ covered. elim (or_cases (lets giver t x op d) (list_any (lets giver t x op) descriptors) covered) [
  | inl first ↦ true≢false (sym (or_left _ _ (eq-eqb d.giver giver (lets_owned giver t x op d first))) ∙ none)
  | inr more ↦ true≢false (sym more ∙ gives_nothing descriptors giver t x op (false_from_ne_true _ (λ given. true≢false (sym (or_right _ _ given) ∙ none))))
])

-- and opens nothing
pub opens_nothing : (descriptors : List Descriptor) (giver x : ℕ) (op : Op) → gives giver descriptors ≡ false → opens descriptors giver x op ≡ false
unfolding gives opens
opens_nothing [] giver x op none = none
opens_nothing (d ∷ descriptors) giver x op none = false_from_ne_true _ (λ opened. elim (or_cases (lets_all giver x op d) (list_any (lets_all giver x op) descriptors) opened) [
  | inl first ↦ true≢false (sym (or_left _ _ (eq-eqb d.giver giver (lets_all_owned giver x op d first))) ∙ none)
  | inr more ↦ true≢false (sym more ∙ opens_nothing descriptors giver x op (false_from_ne_true _ (λ given. true≢false (sym (or_right _ _ given) ∙ none))))
])
