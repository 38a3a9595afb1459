-- Lists of keys: which are listed, each once, what stands ahead of a key and behind it, and the ends.
use Rattle.std.proofs.Common.{◌≡◌, ℕ, true, false, eqb, ◌||◌, List, [], ◌∷◌, ◌++◌, Some, is_some, refl, sym, ap, ◌∙◌, inl, inr}
use Rattle.std.specs.List.{AllByRecursion, IsDistinct}
use Rattle.std.proofs.lemmas.Bool.{or_cases, or_parts, or_left, or_right, or_from, eqb-true, eqb-false, eq-eqb, ne_eqb, false≢true, both_ways, cases_Bool, cond-true, cond-false}
use Rattle.std.proofs.lemmas.List.Folds.{list_any-append}
use Rattle.std.proofs.lemmas.Map.Keys.{IsDistinct-head, IsDistinct-tail, IsDistinct-cons}
use Rattle.asset_chains.specs.Chained.{first_of, last_of, behind, ahead, without, lists}

-- ---- each key once
first_apart : (x : ℕ) (xs : List ℕ) → AllByRecursion (λ y. eqb x y ≡ false) xs → lists xs x ≡ false
first_apart x [] apart = refl
first_apart x (y ∷ ys) apart = or_from (eqb x y) (lists ys x) apart.0 (first_apart x ys apart.1)

apart_from_first : (x : ℕ) (xs : List ℕ) → lists xs x ≡ false → AllByRecursion (λ y. eqb x y ≡ false) xs
apart_from_first x [] new = tt
apart_from_first x (y ∷ ys) new =
    let parts = or_parts (eqb x y) (lists ys x) new in
    (parts.0, apart_from_first x ys parts.1)

-- the first of distinct keys is not listed again
pub distinct_head : (x : ℕ) (xs : List ℕ) → IsDistinct eqb (x ∷ xs) → lists xs x ≡ false
distinct_head x xs distinct = first_apart x xs (IsDistinct-head eqb x xs distinct)

pub distinct_tail : (x : ℕ) (xs : List ℕ) → IsDistinct eqb (x ∷ xs) → IsDistinct eqb xs
distinct_tail x xs distinct = IsDistinct-tail eqb x xs distinct

pub distinct_cons : (x : ℕ) (xs : List ℕ) → lists xs x ≡ false → IsDistinct eqb xs → IsDistinct eqb (x ∷ xs)
distinct_cons x xs new distinct = IsDistinct-cons eqb x xs (apart_from_first x xs new) distinct

pub distinct_none : IsDistinct eqb []
unfolding IsDistinct
distinct_none = tt

-- two keys are different if one is listed and the other is not
pub listed_apart : (keys : List ℕ) (j k : ℕ) → lists keys j ≡ true → lists keys k ≡ false → j ≡ k → ⊥
listed_apart keys j k there absent same = both_ways (lists keys k) absent (rw (sym same) there)

pub lists-append : (xs ys : List ℕ) (k : ℕ) → lists (xs ++ ys) k ≡ (lists xs k || lists ys k)
lists-append xs ys k = list_any-append (eqb k) xs ys

-- the parts of a list of distinct keys are distinct, and have no key in common
pub distinct_parts : (xs ys : List ℕ) → IsDistinct eqb (xs ++ ys) → IsDistinct eqb xs × IsDistinct eqb ys × ((j : ℕ) → lists xs j ≡ true → lists ys j ≡ false)
distinct_parts [] ys distinct = (distinct_none, distinct, λ j there. absurd (false≢true there))
distinct_parts (x ∷ xs) ys distinct =
    let rest = distinct_parts xs ys (distinct_tail x (xs ++ ys) distinct) in
    let new = or_parts (lists xs x) (lists ys x) (sym (lists-append xs ys x) ∙ distinct_head x (xs ++ ys) distinct) in (
      distinct_cons x xs new.0 rest.0,
      rest.1,
      λ j there. elim (or_cases (eqb j x) (lists xs j) there) [
        | inl here ↦ rw (eqb-true j x here) new.1
        | inr later ↦ rest.2 j later
      ],
    )

-- ---- the keys less one
pub lists-without_same : (k : ℕ) (keys : List ℕ) → lists (without k keys) k ≡ false
lists-without_same k [] = refl
lists-without_same k (x ∷ xs) =
    elim (cases_Bool (eqb k x)) [
      | inl here ↦ rw here (lists-without_same k xs)
      | inr other ↦ rw other (or_from (eqb k x) (lists (without k xs) k) other (lists-without_same k xs))
    ]

pub lists-without_other : (k j : ℕ) (keys : List ℕ) → (j ≡ k → ⊥) → lists (without k keys) j ≡ lists keys j
lists-without_other k j [] apart = refl
lists-without_other k j (x ∷ xs) apart =
    let rest = lists-without_other k j xs apart in
    elim (cases_Bool (eqb k x)) [
      | inl here ↦
          let other : eqb j x ≡ false = ne_eqb j x (λ same. apart (same ∙ sym (eqb-true k x here))) in
          rw (here, other) rest
      | inr other ↦ rw other (ap (λ rest. eqb j x || rest) rest)
    ]

pub distinct-without : (k : ℕ) (keys : List ℕ) → IsDistinct eqb keys → IsDistinct eqb (without k keys)
distinct-without k [] distinct = distinct
distinct-without k (x ∷ xs) distinct =
    let rest = distinct-without k xs (distinct_tail x xs distinct) in
    elim (cases_Bool (eqb k x)) [
      | inl here ↦ rw here rest
      | inr other ↦
          let apart : x ≡ k → ⊥ = λ same. eqb-false k x other (sym same) in
          rw other (distinct_cons x (without k xs) (lists-without_other k x xs apart ∙ distinct_head x xs distinct) rest)
    ]

pub without_unlisted : (k : ℕ) (keys : List ℕ) → lists keys k ≡ false → without k keys ≡ keys
without_unlisted k [] absent = refl
without_unlisted k (x ∷ xs) absent =
    let parts = or_parts (eqb k x) (lists xs k) absent in
    rw parts.0 (ap (λ rest. x ∷ rest) (without_unlisted k xs parts.1))

-- ---- a listed key cuts its list in two
pub split_at_key : (k : ℕ) (keys : List ℕ) → lists keys k ≡ true → keys ≡ ahead k keys ++ k ∷ behind k keys
split_at_key k [] there = absurd (false≢true there)
split_at_key k (x ∷ xs) there =
    elim (cases_Bool (eqb k x)) [
      | inl here ↦ rw here (ap (λ y. y ∷ xs) (sym (eqb-true k x here)))
      | inr other ↦
          let later : lists xs k ≡ true = rw other at there in
          rw other (ap (λ rest. x ∷ rest) (split_at_key k xs later))
    ]

pub without_key : (k : ℕ) (keys : List ℕ) → IsDistinct eqb keys → lists keys k ≡ true → without k keys ≡ ahead k keys ++ behind k keys
without_key k [] distinct there = absurd (false≢true there)
without_key k (x ∷ xs) distinct there =
    elim (cases_Bool (eqb k x)) [
      | inl here ↦
          let absent : lists xs k ≡ false = rw (eqb-true k x here) (distinct_head x xs distinct) in
          rw here (without_unlisted k xs absent)
      | inr other ↦
          let later : lists xs k ≡ true = rw other at there in
          rw other (ap (λ rest. x ∷ rest) (without_key k xs (distinct_tail x xs distinct) later))
    ]

-- ---- the last key
pub last_listed : (k : ℕ) (keys : List ℕ) → last_of keys ≡ Some k → lists keys k ≡ true
last_listed k [] last = cc
last_listed k (x ∷ []) last =
    let same : x ≡ k = cc in
    or_left (eqb k x) false (eq-eqb k x (sym same))
last_listed k (x ∷ y ∷ ys) last = or_right (eqb k x) (lists (y ∷ ys) k) (last_listed k (y ∷ ys) last)

pub last_behind : (k : ℕ) (keys : List ℕ) → IsDistinct eqb keys → last_of keys ≡ Some k → behind k keys ≡ []
last_behind k [] distinct last = refl
last_behind k (x ∷ []) distinct last =
    let same : x ≡ k = cc in
    cond-true (eqb k x) [] [] (eq-eqb k x (sym same))
last_behind k (x ∷ y ∷ ys) distinct last =
    let there = last_listed k (y ∷ ys) last in
    let other : eqb k x ≡ false = ne_eqb k x (listed_apart (y ∷ ys) k x there (distinct_head x (y ∷ ys) distinct)) in
    cond-false (eqb k x) (y ∷ ys) (behind k (y ∷ ys)) other ∙ last_behind k (y ∷ ys) (distinct_tail x (y ∷ ys) distinct) last

pub first_listed : (k : ℕ) (keys : List ℕ) → first_of keys ≡ Some k → lists keys k ≡ true
first_listed k [] first = cc
first_listed k (x ∷ xs) first =
    let same : x ≡ k = cc in
    or_left (eqb k x) (lists xs k) (eq-eqb k x (sym same))

pub first_ahead : (k : ℕ) (keys : List ℕ) → first_of keys ≡ Some k → ahead k keys ≡ []
first_ahead k [] first = refl
first_ahead k (x ∷ xs) first =
    let same : x ≡ k = cc in
    cond-true (eqb k x) [] (x ∷ ahead k xs) (eq-eqb k x (sym same))

-- keys of which one is listed have a first one, and so have keys with one more at their end
pub first_is_some : (keys : List ℕ) (k : ℕ) → lists keys k ≡ true → is_some (first_of keys) ≡ true
first_is_some [] k h = absurd (false≢true h)
first_is_some (x ∷ keys) k h = refl
