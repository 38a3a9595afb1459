-- A list in rising order is known by what it lists.
use Rattle.std.proofs.Common.{◌≡◌, ℕ, suc, ◌+◌, ◌<◌, ◌≤◌, Bool, true, false, cond, eqb, ltb, leb, ◌||◌, List, [], ◌∷◌, refl, sym, ◌∙◌, ap, arith, inl, inr}
use Rattle.std.specs.Prelude.{IsPermutation}
use Rattle.std.specs.List.{count_by, AllPairs}
use Rattle.std.proofs.lemmas.List.Kept.{AllPairs-from_increasing}
use Rattle.std.specs.List.Sorted.{IsStrictlyIncreasing}
use Rattle.std.proofs.lemmas.List.Sums.{sum_by-cons}
use Rattle.std.proofs.lemmas.List.Sorted.{sum_by-IsPermutation}
use Rattle.std.proofs.lemmas.Bool.{or_cases, or_left, or_parts, eqb-true, eqb-false, eq-eqb, ltb-true, ltb-false, lt-ltb, leb-true, leb-false, false≢true}
use Rattle.asset_names.specs.declared.names.Ob.{Ob}
use Rattle.asset_names.specs.Arrows.{lists}
use Rattle.asset_names.specs.Sets.{numbers, twice, HasNoDouble, put_in, rising}
use Rattle.asset_names.proofs.DoubleLemmas.{count_by_map, count_by-unlisted}

-- each number that is listed is greater
abbrev Above : ℕ → List Ob → Type 0
Above n objects = (m : ℕ) → lists (numbers objects) m ≡ true → n < m

-- each object is below all that follow it
abbrev Rises : List Ob → Type 0
Rises [] = Unit {0}
Rises (x ∷ objects) = Above x.0 objects × Rises objects

-- where each is below the next, each is below all that follow
rises_pairs : (objects : List Ob) → AllPairs (λ x y. x < y) (numbers objects) → Rises objects
unfolding numbers lists
rises_pairs [] h = tt
rises_pairs (x ∷ []) h = (λ m listed. absurd (false≢true listed), tt)
rises_pairs (x ∷ y ∷ objects) h =
    let next : x.0 < y.0 = h 0 1 0 (omega arith) (omega arith) in
    let rest = rises_pairs (y ∷ objects) (λ i j d lt within. h (suc i) (suc j) d (omega (arith, lt)) (omega (arith, within))) in (
      λ m listed. elim (or_cases (eqb y.0 m) _ listed) [
        | inl here ↦ omega (arith, next, eqb-true y.0 m here)
        | inr later ↦ omega (arith, next, rest.0 m later)
      ],
      rest,
    )

-- a list that rises does not list what is not above its first
not_after : (n m : ℕ) (objects : List Ob) → Above n objects → m ≤ n → lists (numbers objects) m ≡ false
not_after n m objects above le = go (lists (numbers objects) m) refl where
  go : (b : Bool) → lists (numbers objects) m ≡ b → b ≡ false
  go false e = refl
  go true e = absurd (omega (arith, above m e, le))

-- two lists that rise and list the same are one
same_rising : (xs ys : List Ob) → Rises xs → Rises ys → ((m : ℕ) → lists (numbers xs) m ≡ lists (numbers ys) m) → xs ≡ ys
unfolding numbers lists
same_rising [] [] up down same = refl
same_rising [] (y ∷ ys) up down same = absurd (false≢true (same y.0 ∙ or_left _ _ (eq-eqb y.0 y.0 refl)))
same_rising (x ∷ xs) [] up down same = absurd (false≢true (sym (same x.0) ∙ or_left _ _ (eq-eqb x.0 x.0 refl)))
same_rising (x ∷ xs) (y ∷ ys) up down same =
    let first : x.0 ≡ y.0 = omega (arith, least x y xs ys up down same, least y x ys xs down up (λ m. sym (same m))) in
    let rest = same_rising xs ys up.1 down.1 (λ m. tail first m (same m)) in
    rw (rest) (ap (λ n. record { 0 = n } ∷ ys) first) where
      least : (x y : Ob) (xs ys : List Ob) → Rises (x ∷ xs) → Rises (y ∷ ys) → ((m : ℕ) → lists (numbers (x ∷ xs)) m ≡ lists (numbers (y ∷ ys)) m) → y.0 ≤ x.0
      least x y xs ys up down same = elim (or_cases (eqb y.0 x.0) _ (sym (same x.0) ∙ or_left _ _ (eq-eqb x.0 x.0 refl))) [
        | inl here ↦ omega (arith, eqb-true y.0 x.0 here)
        | inr later ↦ omega (arith, down.0 x.0 later)
      ]

      tail : x.0 ≡ y.0 → (m : ℕ) → (eqb x.0 m || lists (numbers xs) m) ≡ (eqb y.0 m || lists (numbers ys) m) → lists (numbers xs) m ≡ lists (numbers ys) m
      tail first m whole = go (eqb x.0 m) refl whole where
        go : (here : Bool) → eqb x.0 m ≡ here → (here || lists (numbers xs) m) ≡ (eqb y.0 m || lists (numbers ys) m) → lists (numbers xs) m ≡ lists (numbers ys) m
        go true e w = not_after x.0 m xs up.0 (omega (arith, eqb-true x.0 m e)) ∙ sym (not_after y.0 m ys down.0 (omega (arith, first, eqb-true x.0 m e)))
        go false e w = w ∙ rw (← first, e) refl

-- one more is listed
put_in_lists : (x : Ob) (objects : List Ob) (m : ℕ) → lists (numbers (put_in x objects)) m ≡ (eqb x.0 m || lists (numbers objects) m)
unfolding numbers lists put_in
put_in_lists x [] m = refl
put_in_lists x (y ∷ objects) m = go (ltb x.0 y.0) (put_in_lists x objects m) where
  go : (before : Bool) → lists (numbers (put_in x objects)) m ≡ (eqb x.0 m || lists (numbers objects) m)
      → lists (numbers (cond before (x ∷ y ∷ objects) (y ∷ put_in x objects))) m ≡ (eqb x.0 m || (eqb y.0 m || lists (numbers objects) m))
  go true ih = refl
  go false ih = rw ih (grind arith)

rising_lists : (objects : List Ob) (m : ℕ) → lists (numbers (rising objects)) m ≡ lists (numbers objects) m
unfolding numbers lists rising
rising_lists [] m = refl
rising_lists (x ∷ objects) m = put_in_lists x (rising objects) m ∙ rw (rising_lists objects m)

-- one more that was not listed is put where it belongs
put_in_rises : (x : Ob) (objects : List Ob) → Rises objects → lists (numbers objects) x.0 ≡ false → Rises (put_in x objects)
unfolding numbers lists put_in
put_in_rises x [] up new = (λ m listed. absurd (false≢true listed), tt)
put_in_rises x (y ∷ objects) up new = go (ltb x.0 y.0) refl (put_in_rises x objects up.1 ((or_parts (eqb y.0 x.0) (lists (numbers objects) x.0) new).1)) where
  parts : (eqb y.0 x.0 ≡ false) × (lists (numbers objects) x.0 ≡ false)
  parts = or_parts (eqb y.0 x.0) (lists (numbers objects) x.0) new

  go : (before : Bool) → ltb x.0 y.0 ≡ before → Rises (put_in x objects) → Rises (cond before (x ∷ y ∷ objects) (y ∷ put_in x objects))
  go true e rest = (
    λ m listed. elim (or_cases (eqb y.0 m) _ listed) [
      | inl here ↦ omega (arith, ltb-true x.0 y.0 e, eqb-true y.0 m here)
      | inr later ↦ omega (arith, ltb-true x.0 y.0 e, up.0 m later)
    ],
    up,
  )
  go false e rest = (
    λ m listed. elim (or_cases (eqb x.0 m) _ (sym (put_in_lists x objects m) ∙ listed)) [
      | inl here ↦ omega (arith, ltb-false x.0 y.0 e, eqb-true x.0 m here, eqb-false y.0 x.0 parts.0)
      | inr later ↦ up.0 m later
    ],
    rest,
  )

-- what is listed is counted
lists_counted : (ns : List ℕ) (n : ℕ) → lists ns n ≡ ltb 0 (count_by (λ m. eqb m n) ns)
unfolding lists
lists_counted [] n = refl
lists_counted (k ∷ ns) n = rw (sum_by-cons (λ m. cond (eqb m n) 1 0) k ns) (go (eqb k n) (lists_counted ns n)) where
  go : (here : Bool) → lists ns n ≡ ltb 0 (count_by (λ m. eqb m n) ns) → (here || lists ns n) ≡ ltb 0 (cond here 1 0 + count_by (λ m. eqb m n) ns)
  go true ih = sym (lt-ltb _ _ (omega arith))
  go false ih = ih ∙ ap (ltb 0) (omega arith)

-- a list without a double lists its first once, and has no double after it
no_double_first : (x : Ob) (objects : List Ob) → HasNoDouble (numbers (x ∷ objects)) → (lists (numbers objects) x.0 ≡ false) × HasNoDouble (numbers objects)
unfolding HasNoDouble twice numbers
no_double_first x objects none = (once (lists (numbers objects) x.0) refl, λ m. fewer m) where
  counted : (m : ℕ) → count_by (λ k. eqb k m) (numbers (x ∷ objects)) ≡ cond (eqb x.0 m) 1 0 + count_by (λ k. eqb k m) (numbers objects)
  counted m = sum_by-cons (λ k. cond (eqb k m) 1 0) x.0 (numbers objects)

  once : (b : Bool) → lists (numbers objects) x.0 ≡ b → b ≡ false
  once false e = refl
  once true e =
      let some = ltb-true 0 _ (sym (lists_counted (numbers objects) x.0) ∙ e) in
      let all = rw (eq-eqb x.0 x.0 refl) at (counted x.0) in
      absurd (omega (arith, some, all, leb-false 2 _ (none x.0)))

  fewer : (m : ℕ) → leb 2 (count_by (λ k. eqb k m) (numbers objects)) ≡ false
  fewer m = go (leb 2 (count_by (λ k. eqb k m) (numbers objects))) refl where
    go : (b : Bool) → leb 2 (count_by (λ k. eqb k m) (numbers objects)) ≡ b → b ≡ false
    go false e = refl
    go true e = absurd (omega (arith, leb-true 2 _ e, counted m, leb-false 2 _ (none m)))

rising_rises : (objects : List Ob) → HasNoDouble (numbers objects) → Rises (rising objects)
unfolding rising
rising_rises [] none = tt
rising_rises (x ∷ objects) none =
    let parts = no_double_first x objects none in
    put_in_rises x (rising objects) (rising_rises objects parts.1) (rising_lists objects x.0 ∙ parts.0)

-- another order lists the same
permuted_lists : (xs ys : List Ob) (m : ℕ) → IsPermutation xs ys → lists (numbers ys) m ≡ lists (numbers xs) m
unfolding numbers
permuted_lists xs ys m same =
    let counts = sum_by-IsPermutation (λ (x : Ob). cond (eqb x.0 m) 1 0) xs ys same in
    lists_counted (numbers ys) m ∙ ap (ltb 0) (count_by_map (λ (x : Ob). x.0) ys m ∙ counts ∙ sym (count_by_map (λ (x : Ob). x.0) xs m)) ∙ sym (lists_counted (numbers xs) m)

-- objects of which none occurs twice, in an order that rises, are in rising order
pub kept_is_rising : (objects kept : List Ob) → IsPermutation objects kept → IsStrictlyIncreasing (numbers kept) → HasNoDouble (numbers objects) → kept ≡ rising objects
kept_is_rising objects kept same up none =
    same_rising kept (rising objects) (rises_pairs kept (AllPairs-from_increasing (numbers kept) up)) (rising_rises objects none) (λ m. permuted_lists objects kept m same ∙ sym (rising_lists objects m))

-- what rises has no double
rises_no_double : (objects : List Ob) → Rises objects → HasNoDouble (numbers objects)
unfolding HasNoDouble twice numbers
rises_no_double [] up m = refl
rises_no_double (x ∷ objects) up m = rw (sum_by-cons (λ k. cond (eqb k m) 1 0) x.0 (numbers objects)) (go (eqb x.0 m) refl (rises_no_double objects up.1 m)) where
  go : (here : Bool) → eqb x.0 m ≡ here → leb 2 (count_by (λ k. eqb k m) (numbers objects)) ≡ false → leb 2 (cond here 1 0 + count_by (λ k. eqb k m) (numbers objects)) ≡ false
  go false e rest = ap (leb 2) (omega arith) ∙ rest
  go true e rest = rw (count_by-unlisted (numbers objects) m (not_after x.0 m objects up.0 (omega (arith, eqb-true x.0 m e)))) refl

pub increasing_no_double : (objects : List Ob) → IsStrictlyIncreasing (numbers objects) → HasNoDouble (numbers objects)
increasing_no_double objects up = rises_no_double objects (rises_pairs objects (AllPairs-from_increasing (numbers objects) up))
