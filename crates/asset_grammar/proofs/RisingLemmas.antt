-- Different objects that are put in order rise.
use Rattle.std.proofs.Common.{◌≡◌, ◌≢◌, ℕ, zero, suc, ◌+◌, ◌<◌, ◌≤◌, Bool, true, false, cond, List, [], ◌∷◌, length, refl, sym, arith, add-one}
use Rattle.std.specs.Prelude.{◌==◌, nat_lt}
use Rattle.std.specs.List.{count_by, list_any}
use Rattle.std.specs.List.Sorted.{IsStrictlyIncreasing}
use Rattle.std.proofs.lemmas.Bool.{eq-eqb, ltb-true, ltb-false, leb-false, or_parts}
use Rattle.std.proofs.lemmas.List.Sums.{sum_by-cons}
use Rattle.std.proofs.lemmas.List.Elements.{All-head, All-tail, All-cons}
use Rattle.asset_names.specs.declared.names.Ob.{Ob}
use Rattle.asset_names.specs.Sets.{numbers, twice, put_in, rising}
use Rattle.asset_grammar.specs.Writable.{AreObjects, IsObject}

-- each object is greater
abbrev Above : ℕ → List Ob → Type 0
Above n [] = Unit {0}
Above n (y ∷ objects) = (n < y.0) × Above n objects

-- each object is below all that follow it
abbrev Rises : List Ob → Type 0
Rises [] = Unit {0}
Rises (x ∷ objects) = Above x.0 objects × Rises objects

-- no object has the number
abbrev Without : ℕ → List Ob → Type 0
Without n [] = Unit {0}
Without n (y ∷ objects) = (n ≢ y.0) × Without n objects

-- no two objects are one
abbrev Differ : List Ob → Type 0
Differ [] = Unit {0}
Differ (x ∷ objects) = Without x.0 objects × Differ objects

above_less : (n m : ℕ) (objects : List Ob) → n < m → Above m objects → Above n objects
above_less n m [] less above = tt
above_less n m (y ∷ objects) less above = (omega (arith, above.0), above_less n m objects less above.1)

above_put : (n : ℕ) (x : Ob) (objects : List Ob) → n < x.0 → Above n objects → Above n (put_in x objects)
unfolding put_in
above_put n x [] less above = (less, tt)
above_put n x (y ∷ objects) less above = go (nat_lt x.0 y.0) (above_put n x objects less above.1) where
  go : (b : Bool) → Above n (put_in x objects) → Above n (cond b (x ∷ y ∷ objects) (y ∷ put_in x objects))
  go true later = (less, above)
  go false later = (above.0, later)

without_put : (n : ℕ) (x : Ob) (objects : List Ob) → n ≢ x.0 → Without n objects → Without n (put_in x objects)
unfolding put_in
without_put n x [] other none = (other, tt)
without_put n x (y ∷ objects) other none = go (nat_lt x.0 y.0) (without_put n x objects other none.1) where
  go : (b : Bool) → Without n (put_in x objects) → Without n (cond b (x ∷ y ∷ objects) (y ∷ put_in x objects))
  go true later = (other, none)
  go false later = (none.0, later)

rises_put : (x : Ob) (objects : List Ob) → Without x.0 objects → Rises objects → Rises (put_in x objects)
unfolding put_in
rises_put x [] none up = (tt, tt)
rises_put x (y ∷ objects) none up = go (nat_lt x.0 y.0) refl (rises_put x objects none.1 up.1) where
  go : (b : Bool) → nat_lt x.0 y.0 ≡ b → Rises (put_in x objects) → Rises (cond b (x ∷ y ∷ objects) (y ∷ put_in x objects))
  go true e later = ((ltb-true _ _ e, above_less x.0 y.0 objects (ltb-true _ _ e) up.0), up)
  go false e later = (above_put y.0 x objects (omega (arith, ltb-false _ _ e, none.0)) up.0, later)

without_rising : (n : ℕ) (objects : List Ob) → Without n objects → Without n (rising objects)
unfolding rising
without_rising n [] none = tt
without_rising n (x ∷ objects) none = without_put n x (rising objects) none.0 (without_rising n objects none.1)

rises_rising : (objects : List Ob) → Differ objects → Rises (rising objects)
unfolding rising
rises_rising [] differ = tt
rises_rising (x ∷ objects) differ = rises_put x (rising objects) (without_rising x.0 objects differ.0) (rises_rising objects differ.1)

-- what rises is in strictly increasing order
increases : (objects : List Ob) → Rises objects → IsStrictlyIncreasing (numbers objects)
unfolding numbers
increases [] up = λ k below. absurd (omega (arith, below))
increases (x ∷ []) up = λ k below. absurd (omega (arith, below))
increases (x ∷ y ∷ objects) up = go (increases (y ∷ objects) up.1) where
  go : IsStrictlyIncreasing (numbers (y ∷ objects)) → IsStrictlyIncreasing (numbers (x ∷ y ∷ objects))
  go rest zero below = up.0.0
  go rest (suc k) below = rw add-one (rw add-one at (rest k (omega (arith, below))))

-- an object that is not counted is not there
without_count : (n : ℕ) (objects : List Ob) → count_by (λ m. m == n) (numbers objects) ≡ 0 → Without n objects
unfolding numbers
without_count n [] none = tt
without_count n (y ∷ objects) none =
    let more = sum_by-cons (λ m. cond (m == n) 1 0) y.0 (numbers objects) in
    let here : (n ≡ y.0 → ⊥) = λ e. let one : (y.0 == n) ≡ true = eq-eqb y.0 n (sym e) in let counted = rw one at more in omega (arith, counted, none) in
    (here, without_count n objects (omega (arith, more, none)))

-- objects of which none is counted twice differ
module _ (all : List ℕ) where
  differ_counted : (objects : List Ob) → ((n : ℕ) → count_by (λ m. m == n) (numbers objects) ≤ count_by (λ m. m == n) all) → list_any (λ (x : Ob). twice all x.0) objects ≡ false → Differ objects
  unfolding numbers twice
  differ_counted [] few none = tt
  differ_counted (x ∷ objects) few none =
      let parts = or_parts (twice all x.0) (list_any (λ (y : Ob). twice all y.0) objects) none in
      let more = sum_by-cons (λ m. cond (m == x.0) 1 0) x.0 (numbers objects) in
      let itself : (x.0 == x.0) ≡ true = eq-eqb x.0 x.0 refl in
      let counted = rw itself at more in
      let once = leb-false 2 (count_by (λ m. m == x.0) all) parts.0 in (
        without_count x.0 objects (omega (arith, counted, once, few x.0)),
        differ_counted objects (λ n. omega (arith, few n, sum_by-cons (λ m. cond (m == n) 1 0) x.0 (numbers objects))) parts.1,
      )

differ_listed : (objects : List Ob) → list_any (λ (x : Ob). twice (numbers objects) x.0) objects ≡ false → Differ objects
differ_listed objects none = differ_counted (numbers objects) objects (λ n. omega arith) none

pub rising_increases : (objects : List Ob) → list_any (λ (x : Ob). twice (numbers objects) x.0) objects ≡ false → IsStrictlyIncreasing (numbers (rising objects))
rising_increases objects none = increases (rising objects) (rises_rising objects (differ_listed objects none))

-- as many objects stand in order, with the same numbers
length-put_in : (x : Ob) (objects : List Ob) → length (put_in x objects) ≡ length objects + 1
unfolding put_in
length-put_in x [] = omega arith
length-put_in x (y ∷ objects) = go (nat_lt x.0 y.0) (length-put_in x objects) where
  go : (b : Bool) → length (put_in x objects) ≡ length objects + 1 → length (cond b (x ∷ y ∷ objects) (y ∷ put_in x objects)) ≡ length (y ∷ objects) + 1
  go true later = omega arith
  go false later = omega (arith, later)

pub length-rising : (objects : List Ob) → length (rising objects) ≡ length objects
unfolding rising
length-rising [] = refl
length-rising (x ∷ objects) = omega (arith, length-put_in x (rising objects), length-rising objects)

small_put : (x : Ob) (objects : List Ob) → IsObject x → AreObjects objects → AreObjects (put_in x objects)
unfolding put_in
small_put x [] first small = All-cons IsObject x [] first small
small_put x (y ∷ objects) first small = go (nat_lt x.0 y.0) (small_put x objects first (All-tail IsObject y objects small)) where
  go : (b : Bool) → AreObjects (put_in x objects) → AreObjects (cond b (x ∷ y ∷ objects) (y ∷ put_in x objects))
  go true later = All-cons IsObject x (y ∷ objects) first small
  go false later = All-cons IsObject y (put_in x objects) (All-head IsObject y objects small) later

pub small_rising : (objects : List Ob) → AreObjects objects → AreObjects (rising objects)
unfolding rising
small_rising [] small = small
small_rising (x ∷ objects) small = small_put x (rising objects) (All-head IsObject x objects small) (small_rising objects (All-tail IsObject x objects small))
