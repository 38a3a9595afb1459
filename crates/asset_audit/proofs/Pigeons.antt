-- Calls that are good have different numbers, all below the length of the history.
use Rattle.std.proofs.Common.{◌≡◌, ℕ, suc, ◌<◌, ◌≤◌, ◌⊎◌, inl, inr, Bool, true, false, ◌||◌, eqb, eq-eqb, ne_eqb, true≢false, List, [], ◌∷◌, ◌++◌, length, map, slice_get, Some, sym, ap, ◌∙◌, subst, refl, arith, ⊎_elim, length-append}
use Rattle.std.specs.List.{IsDistinct, list_any, AllByRecursion}
use Rattle.std.proofs.lemmas.List.Folds.{list_any-append}
use Rattle.std.proofs.lemmas.Bool.{or_parts}
use Rattle.std.proofs.lemmas.Map.Steps.{length-le_from_distinct_below}
use native.Mathlib.Decide.{ℕ_discrete}
use Rattle.asset_audit.specs.Audited.{Call, Rises, HasNumber, AllRise, AnyHas, told_by}
use Rattle.asset_audit.proofs.Places.{length_of-map}

abbrev pub numbers : List (List Call) → List ℕ
numbers [] = []
numbers (l ∷ ls) = map (λ (c : Call). c.0) l ++ numbers ls

pub length-numbers : (ss : List (List Call)) → length (numbers ss) ≡ told_by ss
length-numbers [] = refl
length-numbers (l ∷ ls) = omega (arith, length-append (map (λ (c : Call). c.0) l) (numbers ls), length_of-map (λ (c : Call). c.0) l, length-numbers ls)

or_true : (a b : Bool) → (a || b) ≡ true → (a ≡ true) ⊎ (b ≡ true)
or_true true b e = inl refl
or_true false b e = inr e

eqb_eq : (m n : ℕ) → eqb m n ≡ true → m ≡ n
eqb_eq m n e = go (ℕ_discrete m n)
  where
    go : Dec (m ≡ n) → m ≡ n
    go (yes same) = same
    go (no other) = absurd (true≢false (sym e ∙ ne_eqb m n other))

list_has : (l : List Call) (q : ℕ) → list_any (eqb q) (map (λ (c : Call). c.0) l) ≡ true → HasNumber l q
list_has [] q e = absurd (true≢false (sym e))
list_has (c ∷ cs) q e = ⊎_elim (λ (h : eqb q c.0 ≡ true). (0, c, refl, sym (eqb_eq q c.0 h))) (λ h. let r = list_has cs q h in (suc r.0, r.1, r.2, r.3)) (or_true (eqb q c.0) (list_any (eqb q) (map (λ (d : Call). d.0) cs)) e)

-- a number of the flat list is a call's
pub numbers-has : (ss : List (List Call)) (q : ℕ) → list_any (eqb q) (numbers ss) ≡ true → AnyHas ss q
numbers-has [] q e = absurd (true≢false (sym e))
numbers-has (l ∷ ls) q e =
    ⊎_elim (λ h. (0, l, refl, list_has l q h)) (λ h. let r = numbers-has ls q h in (suc r.0, r.1, r.2, r.3))
    (or_true (list_any (eqb q) (map (λ (c : Call). c.0) l)) (list_any (eqb q) (numbers ls)) (sym (list_any-append (eqb q) (map (λ (c : Call). c.0) l) (numbers ls)) ∙ e))

-- no session has a number of an earlier one
pub record Apart (ss : List (List Call)) : Type 0 where
  pub apart : (i j : ℕ) (a b : List Call) (q : ℕ) → i < j → slice_get ss i ≡ Some a → slice_get ss j ≡ Some b → HasNumber a q → ¬ HasNumber b q

-- what no test finds, no element is
none_in : (x : ℕ) (xs : List ℕ) → list_any (eqb x) xs ≡ false → AllByRecursion (λ y. eqb x y ≡ false) xs
none_in x [] e = tt
none_in x (y ∷ ys) e = let parts = or_parts (eqb x y) (list_any (eqb x) ys) e in (parts.0, none_in x ys parts.1)

not_true : (b : Bool) → (b ≡ true → ⊥) → b ≡ false
not_true true never = absurd (never refl)
not_true false never = refl

-- no number of the first is in the second
abbrev Disjoint : List ℕ → List ℕ → Type 0
Disjoint xs ys = (q : ℕ) → list_any (eqb q) xs ≡ true → list_any (eqb q) ys ≡ true → ⊥

any_here : (x : ℕ) (xs : List ℕ) → list_any (eqb x) (x ∷ xs) ≡ true
any_here x xs = ap (λ b. b || list_any (eqb x) xs) (eq-eqb x x refl)

any_later : (q x : ℕ) (xs : List ℕ) → list_any (eqb q) xs ≡ true → list_any (eqb q) (x ∷ xs) ≡ true
any_later q x xs e = go (eqb q x)
  where
    go : (b : Bool) → (b || list_any (eqb q) xs) ≡ true
    go true = refl
    go false = e

-- an element that is in neither list is not in both together
none_append : (x : ℕ) (xs ys : List ℕ) → AllByRecursion (λ y. eqb x y ≡ false) xs → list_any (eqb x) ys ≡ false → AllByRecursion (λ y. eqb x y ≡ false) (xs ++ ys)
none_append x [] ys a e = none_in x ys e
none_append x (y ∷ xs) ys a e = (a.0, none_append x xs ys a.1 e)

distinct-append : (xs ys : List ℕ) → IsDistinct eqb xs → IsDistinct eqb ys → Disjoint xs ys → IsDistinct eqb (xs ++ ys)
unfolding IsDistinct
distinct-append [] ys dx dy apart = dy
distinct-append (x ∷ xs) ys dx dy apart =
    (none_append x xs ys dx.0 (not_true (list_any (eqb x) ys) (apart x (any_here x xs))), distinct-append xs ys dx.1 dy (λ q ex ey. apart q (any_later q x xs ex) ey))

-- the numbers of a list that rises are different
rises_later : (c : Call) (cs : List Call) → Rises (c ∷ cs) → Rises cs
rises_later c cs r i j a b lt ea eb = r (suc i) (suc j) a b (omega (arith, lt)) ea eb

distinct_rising : (l : List Call) → Rises l → IsDistinct eqb (map (λ (c : Call). c.0) l)
unfolding IsDistinct
distinct_rising [] r = tt
distinct_rising (c ∷ cs) r = (none_in c.0 _ (not_true _ (λ e. let h = list_has cs c.0 e in let lt : c.0 < h.1.0 = r 0 (suc h.0) c h.1 (omega arith) refl h.2 in let same : h.1.0 ≡ c.0 = h.3 in omega (arith, lt, same))), distinct_rising cs (rises_later c cs r))

pub distinct : (ss : List (List Call)) → AllRise ss → Apart ss → IsDistinct eqb (numbers ss)
unfolding IsDistinct
distinct [] r a = tt
distinct (l ∷ ls) r a = distinct-append (map (λ (c : Call). c.0) l) (numbers ls) (distinct_rising l (r 0 l refl)) (distinct ls (λ i m e. r (suc i) m e) (record { apart = λ i j x y q lt ex ey. a.apart (suc i) (suc j) x y q (omega (arith, lt)) ex ey }))
    (λ q el er. let m = numbers-has ls q er in a.apart 0 (suc m.0) l m.1 q (omega arith) refl m.2 (list_has l q el) m.3)

pub told_fits : (ss : List (List Call)) (n : ℕ) → AllRise ss → Apart ss → ((q : ℕ) → AnyHas ss q → q < n) → told_by ss ≤ n
told_fits ss n r a below = subst (λ k. k ≤ n) (length-numbers ss) (length-le_from_distinct_below (numbers ss) n (distinct ss r a) (λ q e. below q (numbers-has ss q e)))

-- as many different numbers below n as n are all numbers below n
pub told_all : (ss : List (List Call)) (n : ℕ) → AllRise ss → Apart ss → ((q : ℕ) → AnyHas ss q → q < n) → told_by ss ≡ n → (q : ℕ) → q < n → AnyHas ss q
unfolding IsDistinct
told_all ss n r a below whole q within = go (list_any (eqb q) (numbers ss)) refl where
  go : (b : Bool) → list_any (eqb q) (numbers ss) ≡ b → AnyHas ss q
  go true e = numbers-has ss q e
  go false e =
      let more = length-le_from_distinct_below (q ∷ numbers ss) n (none_in q (numbers ss) e, distinct ss r a) (λ m h. inside m (eqb m q) refl h) in
      absurd (omega (arith, more, length-numbers ss, whole))
    where
      inside : (m : ℕ) (here : Bool) → eqb m q ≡ here → (eqb m q || list_any (eqb m) (numbers ss)) ≡ true → m < n
      inside m true is h = subst (λ k. k < n) (sym (eqb_eq m q is)) within
      inside m false is h = below m (numbers-has ss m (sym (ap (λ b. b || list_any (eqb m) (numbers ss)) is) ∙ h))
