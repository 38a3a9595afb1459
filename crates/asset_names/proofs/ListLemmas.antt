-- Tests of the items of a list, and which names are listed.
use Rattle.std.proofs.Common.{◌≡◌, ℕ, suc, ◌<◌, Bool, true, false, cond, eqb, ◌&&◌, ◌||◌, List, [], ◌∷◌, ◌++◌, length, get_or, map, filter, refl, ap, subst, ◌∙◌, arith, inl, inr}
use Rattle.std.specs.List.{list_any, list_all}
use Rattle.std.proofs.lemmas.Bool.{false≢true, and_parts, and_from, or_cases, or_parts, or_left, or_right, eqb-true, eq-eqb}
use Rattle.std.proofs.lemmas.List.Folds.{list_any_at}
use Rattle.asset_names.specs.Arrows.{lists}
use Rattle.asset_names.specs.Orderly.{Distinct}
use Rattle.asset_names.proofs.Common.{eqb-flip}

-- a test of changed items
pub any_map : {A B : Type 0} (test : B → Bool) (f : A → B) (xs : List A) → list_any test (map f xs) ≡ list_any (λ x. test (f x)) xs
any_map test f [] = refl
any_map test f (x ∷ xs) = ap (λ b. test (f x) || b) (any_map test f xs)

-- a test of the items that are kept
pub any_filter : {A : Type 0} (test keep : A → Bool) (xs : List A) → list_any test (filter keep xs) ≡ list_any (λ x. keep x && test x) xs
any_filter test keep [] = refl
any_filter test keep (x ∷ xs) = go (keep x) refl (any_filter test keep xs) where
  go : (kept : Bool) → keep x ≡ kept → list_any test (filter keep xs) ≡ list_any (λ y. keep y && test y) xs → list_any test (cond kept (x ∷ filter keep xs) (filter keep xs)) ≡ ((kept && test x) || list_any (λ y. keep y && test y) xs)
  go true is ih = ap (λ b. test x || b) ih
  go false is ih = ih

-- tests that agree on each item
pub any_alike : {A : Type 0} (test other : A → Bool) (xs : List A) → ((x : A) → test x ≡ other x) → list_any test xs ≡ list_any other xs
any_alike test other [] same = refl
any_alike test other (x ∷ xs) same = λ i. same x i || any_alike test other xs same i

-- one test or another
pub any_either : {A : Type 0} (g h : A → Bool) (xs : List A) → list_any (λ x. g x || h x) xs ≡ (list_any g xs || list_any h xs)
any_either g h [] = refl
any_either g h (x ∷ xs) = ap (λ b. (g x || h x) || b) (any_either g h xs) ∙ swapped (g x) (h x) (list_any g xs) (list_any h xs) where
  swapped : (a b c d : Bool) → ((a || b) || (c || d)) ≡ ((a || c) || (b || d))
  swapped true b c d = refl
  swapped false true true d = refl
  swapped false true false d = refl
  swapped false false c d = refl

-- a test, where something holds that does not depend on the item
pub all_and : {A : Type 0} (b : Bool) (test : A → Bool) (xs : List A) → list_any (λ x. b && test x) xs ≡ (b && list_any test xs)
all_and true test xs = refl
all_and false test [] = refl
all_and false test (x ∷ xs) = all_and false test xs

-- a test that is one test or another
pub any_of_two : {A : Type 0} (both one other : A → Bool) (xs : List A) → ((x : A) → both x ≡ (one x || other x)) → list_any both xs ≡ (list_any one xs || list_any other xs)
any_of_two both one other xs is = any_alike both (λ x. one x || other x) xs is ∙ any_either one other xs

-- a test with something that does not depend on the item
pub any_and : {A : Type 0} (test : A → Bool) (b : Bool) (xs : List A) → list_any (λ x. test x && b) xs ≡ (list_any test xs && b)
any_and test b [] = refl
any_and test b (x ∷ xs) = ap (λ c. (test x && b) || c) (any_and test b xs) ∙ spread (test x) (list_any test xs) b where
  spread : (a c b : Bool) → ((a && b) || (c && b)) ≡ ((a || c) && b)
  spread true true true = refl
  spread true true false = refl
  spread true false true = refl
  spread true false false = refl
  spread false c b = refl

-- a listed name passes a test that all pass, all pass it if each listed one does, and any passes if a listed one does
pub all_listed : (test : ℕ → Bool) (names : List ℕ) (n : ℕ) → list_all test names ≡ true → lists names n ≡ true → test n ≡ true
unfolding lists
all_listed test [] n h listed = absurd (false≢true listed)
all_listed test (m ∷ names) n h listed =
    let parts = and_parts (test m) _ h in
    elim (or_cases (eqb m n) _ listed) [
      | inl here ↦ subst (λ k. test k ≡ true) (eqb-true m n here) parts.0
      | inr later ↦ all_listed test names n parts.1 later
    ]

pub listed_all : (test : ℕ → Bool) (names : List ℕ) → ((n : ℕ) → lists names n ≡ true → test n ≡ true) → list_all test names ≡ true
unfolding lists
listed_all test [] passes = refl
listed_all test (m ∷ names) passes = and_from _ _ (passes m (or_left _ _ (eq-eqb m m refl))) (listed_all test names (λ n listed. passes n (or_right (eqb m n) _ listed)))

pub listed_any : (test : ℕ → Bool) (names : List ℕ) (n : ℕ) → lists names n ≡ true → test n ≡ true → list_any test names ≡ true
unfolding lists
listed_any test [] n h passes = absurd (false≢true h)
listed_any test (m ∷ names) n h passes = elim (or_cases (eqb m n) _ h) [
  | inl here ↦ or_left _ _ (ap test (eqb-true m n here) ∙ passes)
  | inr later ↦ or_right (test m) _ (listed_any test names n later passes)
]

-- a listed name stands at an index, and what stands at one is listed
pub listed_at : (names : List ℕ) (n : ℕ) → lists names n ≡ true → (i : ℕ) × (i < length names) × (get_or names i 0 ≡ n)
unfolding lists
listed_at [] n h = absurd (false≢true h)
listed_at (m ∷ names) n h =
    elim (or_cases (eqb m n) (list_any (λ k. eqb k n) names) h) [
      | inl here ↦ (0, omega arith, eqb-true m n here)
      | inr later ↦
          let found = listed_at names n later in
          (suc found.0, omega (arith, found.1), found.2)
    ]

pub lists_at : (names : List ℕ) (n i : ℕ) → i < length names → get_or names i 0 ≡ n → lists names n ≡ true
unfolding lists
lists_at names n i below is = list_any_at (λ m. eqb m n) names i 0 below (eq-eqb (get_or names i 0) n is)

-- one name more at the end
pub lists_pushed : (names : List ℕ) (n m : ℕ) → lists (names ++ n ∷ []) m ≡ (lists names m || eqb n m)
unfolding lists
lists_pushed [] n m = grind arith
lists_pushed (k ∷ names) n m = rw (lists_pushed names n m) (grind arith)

pub distinct_pushed : (names : List ℕ) (n : ℕ) → Distinct names → lists names n ≡ false → Distinct (names ++ n ∷ [])
unfolding lists
distinct_pushed [] n different new = (refl, tt)
distinct_pushed (m ∷ names) n different new =
    let parts = or_parts (eqb m n) (lists names n) new in
    (lists_pushed names n m ∙ rw (different.0, eqb-flip n m, parts.0) refl, distinct_pushed names n different.1 parts.1)
