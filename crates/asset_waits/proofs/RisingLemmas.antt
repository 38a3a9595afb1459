-- Names that rise: two lists of them that list the same are one.
use Rattle.std.proofs.Common.{◌≡◌, ℕ, ◌<◌, ◌≤◌, Bool, true, false, cond, eqb, ltb, ◌||◌, List, [], ◌∷◌, refl, sym, ap, ◌∙◌, arith, inl, inr}
use Rattle.std.specs.List.{AllByRecursion}
use Rattle.std.specs.List.Sorted.{IsStrictlySortedBy}
use Rattle.std.specs.Ordering.{nat_cmp, match_ordering}
use Rattle.std.specs.declared.cmp.Ordering.TheVariants.{Less, Equal, Greater}
use Rattle.std.specs.BTreeSet.{insert_key}
use Rattle.std.proofs.lemmas.Bool.{or_left, or_cases, eqb-true, eqb-false, eq-eqb, ltb-true, ltb-false, false≢true}
use Rattle.asset_names.specs.Arrows.{lists}
use Rattle.asset_lock_store.proofs.BlockingLemmas.{lists_inserted}
use Rattle.asset_waits.specs.Waiting.{rising}

-- each name that is listed is greater
abbrev Above : ℕ → List ℕ → Type 0
Above n names = (m : ℕ) → lists names m ≡ true → n < m

-- each name is below all that follow it
abbrev pub Rises : List ℕ → Type 0
Rises [] = Unit {0}
Rises (n ∷ names) = Above n names × Rises names

less_is : (n m : ℕ) → nat_cmp n m ≡ Less → n < m
less_is n m is = go (ltb n m) (eqb n m) refl is where
  go : (less same : Bool) → ltb n m ≡ less → cond less Less (cond same Equal Greater) ≡ Less → n < m
  go true same e is = ltb-true n m e
  go false true e is = absurd (cc)
  go false false e is = absurd (cc)

above_all : (n : ℕ) (names : List ℕ) → AllByRecursion (λ m. nat_cmp n m ≡ Less) names → Above n names
unfolding lists
above_all n [] all m listed = absurd (false≢true listed)
above_all n (k ∷ names) all m listed = elim (or_cases (eqb k m) _ listed) [
  | inl here ↦ omega (arith, less_is n k all.0, eqb-true k m here)
  | inr later ↦ above_all n names all.1 m later
]

-- the keys of a set rise
pub sorted_rises : (names : List ℕ) → IsStrictlySortedBy nat_cmp names → Rises names
unfolding IsStrictlySortedBy
sorted_rises [] sorted = tt
sorted_rises (n ∷ names) sorted = (above_all n names sorted.0, sorted_rises names sorted.1)

-- a list that rises does not list what is not above its first
not_after : (n m : ℕ) (names : List ℕ) → Above n names → m ≤ n → lists names m ≡ false
not_after n m names above le = go (lists names m) refl where
  go : (b : Bool) → lists names m ≡ b → b ≡ false
  go false e = refl
  go true e = absurd (omega (arith, above m e, le))

-- two lists that rise and list the same are one
pub same_rising : (xs ys : List ℕ) → Rises xs → Rises ys → ((m : ℕ) → lists xs m ≡ lists ys m) → xs ≡ ys
unfolding lists
same_rising [] [] up down same = refl
same_rising [] (y ∷ ys) up down same = absurd (false≢true (same y ∙ or_left _ _ (eq-eqb y y refl)))
same_rising (x ∷ xs) [] up down same = absurd (false≢true (sym (same x) ∙ or_left _ _ (eq-eqb x x refl)))
same_rising (x ∷ xs) (y ∷ ys) up down same =
    let first : x ≡ y = omega (arith, least x y xs ys up down same, least y x ys xs down up (λ m. sym (same m))) in
    let rest = same_rising xs ys up.1 down.1 (λ m. tail first m (same m)) in
    rw (rest) (ap (λ n. n ∷ ys) first) where
      least : (x y : ℕ) (xs ys : List ℕ) → Rises (x ∷ xs) → Rises (y ∷ ys) → ((m : ℕ) → lists (x ∷ xs) m ≡ lists (y ∷ ys) m) → y ≤ x
      least x y xs ys up down same = elim (or_cases (eqb y x) _ (sym (same x) ∙ or_left _ _ (eq-eqb x x refl))) [
        | inl here ↦ omega (arith, eqb-true y x here)
        | inr later ↦ omega (arith, down.0 x later)
      ]

      tail : x ≡ y → (m : ℕ) → (eqb x m || lists xs m) ≡ (eqb y m || lists ys m) → lists xs m ≡ lists ys m
      tail first m whole = go (eqb x m) refl whole where
        go : (here : Bool) → eqb x m ≡ here → (here || lists xs m) ≡ (eqb y m || lists ys m) → lists xs m ≡ lists ys m
        go true e w = not_after x m xs up.0 (omega (arith, eqb-true x m e)) ∙ sym (not_after y m ys down.0 (omega (arith, first, eqb-true x m e)))
        go false e w = w ∙ rw (← first, e) refl

-- one more name is put where it belongs
insert_rises : (n : ℕ) (names : List ℕ) → Rises names → Rises (insert_key nat_cmp names n)
unfolding lists
insert_rises n [] up = (λ m listed. absurd (false≢true listed), tt)
insert_rises n (k ∷ names) up = go (ltb n k) (eqb n k) refl refl (insert_rises n names up.1) where
  go : (less same : Bool) → ltb n k ≡ less → eqb n k ≡ same → Rises (insert_key nat_cmp names n) → Rises (match_ordering (cond less Less (cond same Equal Greater)) (n ∷ k ∷ names) (k ∷ names) (k ∷ insert_key nat_cmp names n))
  go true same e is rest = (
    λ m listed. elim (or_cases (eqb k m) _ listed) [
      | inl here ↦ omega (arith, ltb-true n k e, eqb-true k m here)
      | inr later ↦ omega (arith, ltb-true n k e, up.0 m later)
    ],
    up,
  )
  go false true e is rest = up
  go false false e is rest = (
    λ m listed. elim (or_cases (eqb n m) _ (sym (lists_inserted n m names) ∙ listed)) [
      | inl here ↦ omega (arith, ltb-false n k e, eqb-false n k is, eqb-true n m here)
      | inr later ↦ up.0 m later
    ],
    rest,
  )

pub rising_rises : (names : List ℕ) → Rises (rising names)
unfolding rising
rising_rises [] = tt
rising_rises (n ∷ names) = insert_rises n (rising names) (rising_rises names)

pub rising_lists : (names : List ℕ) (m : ℕ) → lists (rising names) m ≡ lists names m
unfolding rising lists
rising_lists [] m = refl
rising_lists (n ∷ names) m = lists_inserted n m (rising names) ∙ ap (λ (b : Bool). eqb n m || b) (rising_lists names m)
