-- Looking for the least number that is listed twice.
use Rattle.std.proofs.Common.{◌≡◌, ℕ, ◌+◌, ◌≤◌, ◌<◌, Bool, true, false, cond, eqb, ltb, leb, ◌||◌, List, [], ◌∷◌, ◌++◌, length, get_or, take, map, refl, sym, ◌∙◌, ap, subst, arith, inl, inr, Some, None, IfSome, IfNone}
use Rattle.std.specs.Prelude.{Option}
use Rattle.std.specs.List.{list_any, count_by}
use Rattle.std.proofs.lemmas.List.Sums.{sum_by-cons, sum_by_push}
use Rattle.std.proofs.lemmas.Bool.{or_cases, or_parts, eqb-true, leb-true, leb-false, lt-leb, ltb-true, ltb-false, false≢true}
use Rattle.std.proofs.lemmas.List.{take_more, map-append}
use Rattle.asset_names.specs.declared.names.Ob.{Ob}
use Rattle.asset_names.specs.Arrows.{lists}
use Rattle.asset_names.specs.Sets.{numbers, twice, IsLeastDouble, HasNoDouble, lesser}
use Rattle.asset_names.proofs.ListLemmas.{lists_pushed}

-- the least number that is listed twice, of those that were seen
abbrev pub LeastAmong : List ℕ → List ℕ → Option Ob → Type 0
LeastAmong listed seen None = (m : ℕ) → lists seen m ≡ true → twice listed m ≡ false
LeastAmong listed seen (Some x) = (twice listed x.0 ≡ true) × ((m : ℕ) → lists seen m ≡ true → twice listed m ≡ true → x.0 ≤ m)

-- how often the items name a number
pub count_by_map : {X : Type 0} (f : X → ℕ) (items : List X) (n : ℕ) → count_by (λ m. eqb m n) (map f items) ≡ count_by (λ x. eqb (f x) n) items
count_by_map f [] n = refl
count_by_map f (x ∷ items) n =
    sum_by-cons (λ m. cond (eqb m n) 1 0) (f x) (map f items)
    ∙ ap (λ k. cond (eqb (f x) n) 1 0 + k) (count_by_map f items n)
    ∙ sym (sum_by-cons (λ x. cond (eqb (f x) n) 1 0) x items)

-- what is not listed is counted 0 times
pub count_by-unlisted : (listed : List ℕ) (n : ℕ) → lists listed n ≡ false → count_by (λ m. eqb m n) listed ≡ 0
unfolding lists
count_by-unlisted [] n h = refl
count_by-unlisted (m ∷ listed) n h =
    let parts = or_parts (eqb m n) (lists listed n) h in
    sum_by-cons (λ k. cond (eqb k n) 1 0) m listed ∙ rw (parts.0, count_by-unlisted listed n parts.1) (omega arith)

-- what is listed twice is listed
pub twice_listed : (listed : List ℕ) (n : ℕ) → twice listed n ≡ true → lists listed n ≡ true
unfolding twice
twice_listed listed n h = go (lists listed n) refl where
  go : (b : Bool) → lists listed n ≡ b → b ≡ true
  go true e = refl
  go false e = absurd (omega (arith, leb-true 2 (count_by (λ m. eqb m n) listed) h, count_by-unlisted listed n e))

-- the lesser of two that are listed twice
least_of_two : (listed seen : List ℕ) (x y : Ob) (below : Bool) → ltb y.0 x.0 ≡ below → LeastAmong listed seen (Some y) → twice listed x.0 ≡ true → LeastAmong listed (seen ++ x.0 ∷ []) (Some (cond below y x))
least_of_two listed seen x y true e h t = (
  h.0,
  λ m l d. elim (or_cases (lists seen m) (eqb x.0 m) (sym (lists_pushed seen x.0 m) ∙ l)) [
    | inl before ↦ h.1 m before d
    | inr here ↦ omega (arith, eqb-true x.0 m here, ltb-true y.0 x.0 e)
  ],
)
least_of_two listed seen x y false e h t = (
  t,
  λ m l d. elim (or_cases (lists seen m) (eqb x.0 m) (sym (lists_pushed seen x.0 m) ∙ l)) [
    | inl before ↦ omega (arith, h.1 m before d, ltb-false y.0 x.0 e)
    | inr here ↦ omega (arith, eqb-true x.0 m here)
  ],
)

-- one more is seen, and it is listed twice
pub least_twice : (listed seen : List ℕ) (x : Ob) (found : Option Ob) → LeastAmong listed seen found → twice listed x.0 ≡ true → LeastAmong listed (seen ++ x.0 ∷ []) (Some (lesser x found))
least_twice listed seen x None h t = (
  t,
  λ m l d. elim (or_cases (lists seen m) (eqb x.0 m) (sym (lists_pushed seen x.0 m) ∙ l)) [
    | inl before ↦ absurd (false≢true (sym (h m before) ∙ d))
    | inr here ↦ omega (arith, eqb-true x.0 m here)
  ],
)
least_twice listed seen x (Some y) h t = least_of_two listed seen x y (ltb y.0 x.0) refl h t

-- one more is seen, and it is not listed twice
pub least_once : (listed seen : List ℕ) (x : Ob) (found : Option Ob) → LeastAmong listed seen found → twice listed x.0 ≡ false → LeastAmong listed (seen ++ x.0 ∷ []) found
least_once listed seen x None h t = λ m l. elim (or_cases (lists seen m) (eqb x.0 m) (sym (lists_pushed seen x.0 m) ∙ l)) [
  | inl before ↦ h m before
  | inr here ↦ subst (λ n. twice listed n ≡ false) (eqb-true x.0 m here) t
]
least_once listed seen x (Some y) h t = (
  h.0,
  λ m l d. elim (or_cases (lists seen m) (eqb x.0 m) (sym (lists_pushed seen x.0 m) ∙ l)) [
    | inl before ↦ h.1 m before d
    | inr here ↦ absurd (false≢true (sym (subst (λ n. twice listed n ≡ false) (eqb-true x.0 m here) t) ∙ d))
  ],
)

-- all are seen
pub least_found : (listed : List ℕ) (found : Option Ob) → LeastAmong listed listed found → IfSome found (λ x. IsLeastDouble listed x.0)
unfolding IsLeastDouble
least_found listed None h = tt
least_found listed (Some x) h = (h.0, λ m d. h.1 m (twice_listed listed m d) d)

pub least_none : (listed : List ℕ) (found : Option Ob) → LeastAmong listed listed found → IfNone found (HasNoDouble listed)
unfolding HasNoDouble
least_none listed (Some x) h = tt
least_none listed None h = λ m. go m (twice listed m) refl where
  go : (m : ℕ) (b : Bool) → twice listed m ≡ b → b ≡ false
  go m false e = refl
  go m true e = absurd (false≢true (sym (h m (twice_listed listed m e)) ∙ e))

-- the numbers of one more item
pub map_take : {X : Type 0} (f : X → ℕ) (items : List X) (i : ℕ) (d : X) → i < length items → map f (take (i + 1) items) ≡ map f (take i items) ++ f (get_or items i d) ∷ []
map_take f items i d below = ap (map f) (take_more items i d below) ∙ map-append f (take i items) (get_or items i d ∷ [])

-- whether an item is named twice, by how often it is
pub twice_map : {X : Type 0} (f : X → ℕ) (items : List X) (x n : ℕ) → n ≡ count_by (λ y. eqb (f y) x) items → twice (map f items) x ≡ leb 2 n
unfolding twice
twice_map f items x n e = ap (leb 2) (count_by_map f items x ∙ sym e)

-- what the numbers of objects list, the objects do
pub lists_numbers : (objects : List Ob) (n : ℕ) → lists (numbers objects) n ≡ list_any (λ (o : Ob). eqb o.0 n) objects
unfolding lists numbers
lists_numbers [] n = refl
lists_numbers (o ∷ objects) n = ap (λ b. eqb o.0 n || b) (lists_numbers objects n)

-- one more number that was not listed makes no double
pub no_double_push : (listed : List ℕ) (n : ℕ) → lists listed n ≡ false → HasNoDouble listed → HasNoDouble (listed ++ n ∷ [])
unfolding HasNoDouble twice
no_double_push listed n new none = λ m. rw (sum_by_push (λ k. cond (eqb k m) 1 0) listed n) (go m (eqb n m) refl) where
  go : (m : ℕ) (same : Bool) → eqb n m ≡ same → leb 2 (count_by (λ k. eqb k m) listed + cond same 1 0) ≡ false
  go m true e =
      let zero_of : count_by (λ k. eqb k m) listed ≡ 0 = count_by-unlisted listed m (subst (λ k. lists listed k ≡ false) (eqb-true n m e) new) in
      rw zero_of refl
  go m false e = lt-leb 2 _ (omega (arith, leb-false 2 (count_by (λ k. eqb k m) listed) (none m)))
