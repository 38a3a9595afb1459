-- Items in a slab, by the slots that have them: whether one passes a test, after one more, and after those of one name are
-- gone.
use Rattle.std.proofs.Common.{◌≡◌, ℕ, zero, suc, Bool, true, false, eqb, not, ◌&&◌, ◌||◌, List, [], ◌∷◌, length, arith, get_or, filter_map, Option, Some, None, refl, sym, ap, ◌∙◌, inl, inr}
use Rattle.std.specs.List.{list_any}
use Rattle.std.proofs.lemmas.Bool.{or_cases, or_left, or_right, and_from, and_parts, false≢true, true≢false, cases_eq}
use Rattle.asset_names.proofs.Common.{both_follow}
use Rattle.slab.specs.Slab.{Slab, get, values, Updates}

module _ {D : Type 0} where
  -- the items in some slots
  abbrev pub in_slots : List (Option D) → List D
  in_slots slots = filter_map (λ (slot : Option D). slot) slots

  any_in_slots : (test : D → Bool) (slots : List (Option D)) (i : ℕ) (d : D) → get_or slots i None ≡ Some d → test d ≡ true → list_any test (in_slots slots) ≡ true
  any_in_slots test [] i d there passes = cc there
  any_in_slots test (None ∷ slots) zero d there passes = cc there
  any_in_slots test (None ∷ slots) (suc i) d there passes = any_in_slots test slots i d there passes
  any_in_slots test (Some e ∷ slots) zero d there passes = let same : e ≡ d = cc there in or_left (test e) _ (ap test same ∙ passes)
  any_in_slots test (Some e ∷ slots) (suc i) d there passes = or_right (test e) _ (any_in_slots test slots i d there passes)

  pub slot_of_any : (test : D → Bool) (slots : List (Option D)) → list_any test (in_slots slots) ≡ true → (i : ℕ) × (d : D) × (get_or slots i None ≡ Some d) × (test d ≡ true)
  slot_of_any test [] h = absurd (false≢true h)
  slot_of_any test (None ∷ slots) h = let found = slot_of_any test slots h in (suc found.0, found.1, found.2, found.3)
  slot_of_any test (Some e ∷ slots) h = elim (or_cases (test e) _ h) [
    | inl here ↦ (0, e, refl, here)
    | inr later ↦ let found = slot_of_any test slots later in (suc found.0, found.1, found.2, found.3)
  ]

  -- an item at a key is among them, and one that is among them is at a key
  pub any_has : (test : D → Bool) (items : Slab D) (k : ℕ) (d : D) → get items k ≡ Some d → test d ≡ true → list_any test (values items) ≡ true
  any_has test items k d there passes = any_in_slots test items.slots k d there passes

  pub key_of_any : (test : D → Bool) (items : Slab D) → list_any test (values items) ≡ true → (k : ℕ) × (d : D) × (get items k ≡ Some d) × (test d ≡ true)
  key_of_any test items h = slot_of_any test items.slots h

  -- ---- one more
  pub any_added : (test : D → Bool) (items more : Slab D) (k : ℕ) (d : D) → get items k ≡ None → Updates items more k (Some d) → list_any test (values more) ≡ (list_any test (values items) || test d)
  any_added test items more k d free put = both_follow _ _ to back where
    to : list_any test (values more) ≡ true → (list_any test (values items) || test d) ≡ true
    to h =
        let found = key_of_any test more h in
        elim (cases_eq found.0 k) [
          | inl is ↦ let same : Some found.1 ≡ Some d = sym found.2 ∙ ap (get more) is ∙ put.changed in let one : found.1 ≡ d = cc same in or_right (list_any test (values items)) (test d) (ap test (sym one) ∙ found.3)
          | inr other ↦ or_left _ (test d) (any_has test items found.0 found.1 (sym (put.others found.0 other) ∙ found.2) found.3)
        ]

    back : (list_any test (values items) || test d) ≡ true → list_any test (values more) ≡ true
    back h = elim (or_cases _ (test d) h) [
      | inl old ↦
          let found = key_of_any test items old in
          let other : found.0 ≡ k → ⊥ = λ is. cc (sym free ∙ ap (get items) (sym is) ∙ found.2) in
          any_has test more found.0 found.1 (put.others found.0 other ∙ found.2) found.3
      | inr new ↦ any_has test more k d put.changed new
    ]

-- ---- how many there are
module _ {D : Type 0} where
  -- as many items stand in slots that have the same ones
  same_count : (xs ys : List (Option D)) → ((i : ℕ) → get_or ys i None ≡ get_or xs i None) → length (in_slots ys) ≡ length (in_slots xs)
  same_count [] [] same = refl
  same_count [] (None ∷ ys) same = same_count [] ys (λ i. same (suc i))
  same_count [] (Some e ∷ ys) same = let first = same 0 in absurd cc
  same_count (None ∷ xs) [] same = same_count xs [] (λ i. same (suc i))
  same_count (Some d ∷ xs) [] same = let first = same 0 in absurd cc
  same_count (None ∷ xs) (None ∷ ys) same = same_count xs ys (λ i. same (suc i))
  same_count (None ∷ xs) (Some e ∷ ys) same = let first = same 0 in absurd cc
  same_count (Some d ∷ xs) (None ∷ ys) same = let first = same 0 in absurd cc
  same_count (Some d ∷ xs) (Some e ∷ ys) same = ap suc (same_count xs ys (λ i. same (suc i)))

  longer_slots : (xs ys : List (Option D)) (k : ℕ) (d : D) → get_or xs k None ≡ None → get_or ys k None ≡ Some d → ((i : ℕ) → (i ≡ k → ⊥) → get_or ys i None ≡ get_or xs i None)
      → length (in_slots ys) ≡ suc (length (in_slots xs))
  longer_slots xs [] k d free put others = absurd cc
  longer_slots xs (None ∷ ys) zero d free put others = absurd cc
  longer_slots [] (Some e ∷ ys) zero d free put others = ap suc (same_count [] ys (λ i. others (suc i) (λ is. omega (arith, is))))
  longer_slots (None ∷ xs) (Some e ∷ ys) zero d free put others = ap suc (same_count xs ys (λ i. others (suc i) (λ is. omega (arith, is))))
  longer_slots (Some c ∷ xs) (Some e ∷ ys) zero d free put others = absurd cc
  longer_slots [] (None ∷ ys) (suc k) d free put others = longer_slots [] ys k d free put (λ i other. others (suc i) (λ is. other (omega (arith, is))))
  longer_slots [] (Some e ∷ ys) (suc k) d free put others = let first = others 0 (λ is. omega (arith, is)) in absurd cc
  longer_slots (None ∷ xs) (None ∷ ys) (suc k) d free put others = longer_slots xs ys k d free put (λ i other. others (suc i) (λ is. other (omega (arith, is))))
  longer_slots (None ∷ xs) (Some e ∷ ys) (suc k) d free put others = let first = others 0 (λ is. omega (arith, is)) in absurd cc
  longer_slots (Some c ∷ xs) (None ∷ ys) (suc k) d free put others = let first = others 0 (λ is. omega (arith, is)) in absurd cc
  longer_slots (Some c ∷ xs) (Some e ∷ ys) (suc k) d free put others = ap suc (longer_slots xs ys k d free put (λ i other. others (suc i) (λ is. other (omega (arith, is)))))

  -- there is one item more after one is put at a free key
  pub one_longer : (items more : Slab D) (k : ℕ) (d : D) → get items k ≡ None → Updates items more k (Some d) → length (values more) ≡ suc (length (values items))
  one_longer items more k d free put = longer_slots items.slots more.slots k d free put.changed put.others

-- ---- some go
not_false : (p : Bool) → p ≡ false → not p ≡ true
not_false true h = absurd (true≢false h)
not_false false h = refl

not_true : (p : Bool) → not p ≡ true → p ≡ false
not_true true h = absurd (false≢true h)
not_true false h = refl

module _ {D : Type 0} (from to : D → ℕ) where
  -- what is left is what begins and ends elsewhere
  pub record IsRid (t : ℕ) (items fewer : Slab D) : Type 0 where
    pub still : (k : ℕ) (d : D) → get fewer k ≡ Some d → get items k ≡ Some d
    pub begins : (k : ℕ) (d : D) → get fewer k ≡ Some d → eqb (from d) t ≡ false
    pub across : (k : ℕ) (d : D) → get fewer k ≡ Some d → eqb (to d) t ≡ false
    pub kept : (k : ℕ) (d : D) → get items k ≡ Some d → eqb (from d) t ≡ false → eqb (to d) t ≡ false → get fewer k ≡ Some d

  pub any_dropped : (test : D → Bool) (t u v : ℕ) (items fewer : Slab D) → ((d : D) → test d ≡ true → from d ≡ u) → ((d : D) → test d ≡ true → to d ≡ v) → IsRid t items fewer
      → list_any test (values fewer) ≡ (list_any test (values items) && not (eqb u t) && not (eqb v t))
  any_dropped test t u v items fewer begins across rid = both_follow _ _ on back where
    regroup : (a b c : Bool) → (a && (b && c)) ≡ (a && b && c)
    regroup true b c = refl
    regroup false b c = refl

    on : list_any test (values fewer) ≡ true → (list_any test (values items) && not (eqb u t) && not (eqb v t)) ≡ true
    on h =
        let found = key_of_any test fewer h in
        let first : eqb u t ≡ false = ap (λ n. eqb n t) (sym (begins found.1 found.3)) ∙ rid.begins found.0 found.1 found.2 in
        let second : eqb v t ≡ false = ap (λ n. eqb n t) (sym (across found.1 found.3)) ∙ rid.across found.0 found.1 found.2 in
        sym (regroup (list_any test (values items)) (not (eqb u t)) (not (eqb v t))) ∙ and_from _ _ (any_has test items found.0 found.1 (rid.still found.0 found.1 found.2) found.3) (and_from _ _ (not_false (eqb u t) first) (not_false (eqb v t) second))

    back : (list_any test (values items) && not (eqb u t) && not (eqb v t)) ≡ true → list_any test (values fewer) ≡ true
    back h =
        let parts = and_parts (list_any test (values items)) (not (eqb u t) && not (eqb v t)) (regroup (list_any test (values items)) (not (eqb u t)) (not (eqb v t)) ∙ h) in
        let names = and_parts (not (eqb u t)) (not (eqb v t)) parts.1 in
        let found = key_of_any test items parts.0 in
        let first : eqb (from found.1) t ≡ false = ap (λ n. eqb n t) (begins found.1 found.3) ∙ not_true (eqb u t) names.0 in
        let second : eqb (to found.1) t ≡ false = ap (λ n. eqb n t) (across found.1 found.3) ∙ not_true (eqb v t) names.1 in
        any_has test fewer found.0 found.1 (rid.kept found.0 found.1 found.2 first second) found.3
