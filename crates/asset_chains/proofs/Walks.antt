-- A walk along a chain, from a key to the next; and what lists make of keys.
use Rattle.std.proofs.Common.{◌≡◌, ℕ, Bool, true, false, eqb, List, [], ◌∷◌, map, length, Option, Some, None, ◌<◌, ◌⊎◌, refl, sym, ap, subst, ◌∙◌, inl, inr, arith}
use Rattle.std.specs.Prelude.{find, cond, slice_index_or}
use Rattle.std.specs.List.{list_any, IsDistinct}
use Rattle.std.proofs.lemmas.Bool.{or_cases, or_left, or_right, or_from, eqb-true, eqb-false, eq-eqb, ne_eqb, false≢true, both_ways, cases_Bool, cases_eq}
use Rattle.asset_chains.specs.Chained.{Chained, chain_of, home_of, first_of, behind, lists, without, unlinked, IsConsistent}
use Rattle.asset_chains.proofs.KeyLemmas.{distinct_head, distinct_tail, distinct_none, distinct_cons, first_listed, without_unlisted}
use Rattle.asset_chains.proofs.Laws.{unlinks}
use Rattle.asset_chains.proofs.SoundLemmas.{listed_once}

-- the keys from a key on; none from no key
abbrev pub from_key : Option ℕ → List ℕ → List ℕ
from_key None keys = []
from_key (Some k) keys = k ∷ behind k keys

-- from the first key on there are all
pub from_first : (keys : List ℕ) → from_key (first_of keys) keys ≡ keys
from_first [] = refl
from_first (x ∷ xs) = rw (eq-eqb x x refl) refl

behind_later : (k x : ℕ) (xs : List ℕ) → lists xs k ≡ true → lists xs x ≡ false → behind k (x ∷ xs) ≡ behind k xs
behind_later k x xs there apart = rw (ne_eqb k x (λ same. both_ways (lists xs x) apart (rw (sym same) there))) refl

-- from the key after a key on there are those behind it
pub from_next : (k : ℕ) (keys : List ℕ) → IsDistinct eqb keys → lists keys k ≡ true → from_key (first_of (behind k keys)) keys ≡ behind k keys
from_next k [] distinct there = absurd (false≢true there)
from_next k (x ∷ xs) distinct there =
    let new = distinct_head x xs distinct in
    elim (cases_Bool (eqb k x)) [
      | inl here ↦ rw here (after_head x xs new)
      | inr other ↦
          let later : lists xs k ≡ true = rw other at there in
          rw other (after_other (first_of (behind k xs)) refl (from_next k xs (distinct_tail x xs distinct) later) new)
    ] where
      after_head : (x : ℕ) (xs : List ℕ) → lists xs x ≡ false → from_key (first_of xs) (x ∷ xs) ≡ xs
      after_head x [] new = refl
      after_head x (y ∷ ys) new = rw (behind_later y x (y ∷ ys) (or_left (eqb y y) (lists ys y) (eq-eqb y y refl)) new, eq-eqb y y refl) refl

      behind_lists : (keys : List ℕ) (j : ℕ) → lists (behind k keys) j ≡ true → lists keys j ≡ true
      behind_lists [] j h = h
      behind_lists (y ∷ ys) j h = elim (cases_Bool (eqb k y)) [
        | inl here ↦ or_right (eqb j y) (lists ys j) (rw here at h)
        | inr other ↦ or_right (eqb j y) (lists ys j) (behind_lists ys j (rw other at h))
      ]

      after_other : (o : Option ℕ) → first_of (behind k xs) ≡ o → from_key (first_of (behind k xs)) xs ≡ behind k xs → lists xs x ≡ false → from_key (first_of (behind k xs)) (x ∷ xs) ≡ behind k xs
      after_other None e ih new = ap (λ o. from_key o (x ∷ xs)) e ∙ sym (ap (λ o. from_key o xs) e) ∙ ih
      after_other (Some j) e ih new =
          ap (λ o. from_key o (x ∷ xs)) e ∙ ap (λ l. j ∷ l) (behind_later j x xs (behind_lists xs j (first_listed j (behind k xs) e)) new) ∙ sym (ap (λ o. from_key o xs) e) ∙ ih

pub behind_listed : (k : ℕ) (keys : List ℕ) (j : ℕ) → lists (behind k keys) j ≡ true → lists keys j ≡ true
behind_listed k [] j h = h
behind_listed k (y ∷ ys) j h = elim (cases_Bool (eqb k y)) [
  | inl here ↦ or_right (eqb j y) (lists ys j) (rw here at h)
  | inr other ↦ or_right (eqb j y) (lists ys j) (behind_listed k ys j (rw other at h))
]

-- the key that comes next is in the chain
pub next_home : (table : Chained) (k j c : ℕ) → IsConsistent table → home_of table k ≡ Some c → first_of (behind k (chain_of table c)) ≡ Some j → home_of table j ≡ Some c
next_home table k j c sound home next = sound.at_home c j (behind_listed k (chain_of table c) j (first_listed j (behind k (chain_of table c)) next))

-- what holds of each key that was passed holds of one more
pub walk_more : (P : ℕ → Type 0) (key : ℕ) (keys : List ℕ) → IsDistinct eqb keys → lists keys key ≡ true → ((k : ℕ) → lists keys k ≡ true → (lists (from_key (Some key) keys) k ≡ true) ⊎ P k) → P key
    → (k : ℕ) → lists keys k ≡ true → (lists (from_key (first_of (behind key keys)) keys) k ≡ true) ⊎ P k
walk_more P key keys distinct there passed here k listed = elim (passed k listed) [
  | inl left ↦ elim (or_cases (eqb k key) (lists (behind key keys) k) left) [
    | inl same ↦ inr (subst P (sym (eqb-true k key same)) here)
    | inr later ↦ inl (ap (λ (l : List ℕ). lists l k) (from_next key keys distinct there) ∙ later)
  ]
  | inr done ↦ inr done
]

-- at the end it holds of all
pub walk_ends : (P : ℕ → Type 0) (keys : List ℕ) → ((k : ℕ) → lists keys k ≡ true → (lists (from_key None keys) k ≡ true) ⊎ P k) → (k : ℕ) → lists keys k ≡ true → P k
walk_ends P keys passed k listed = elim (passed k listed) [
  | inl left ↦ absurd (false≢true left)
  | inr done ↦ done
]

-- a step along a chain leaves fewer keys
pub walk_less : (key : ℕ) (keys : List ℕ) → IsDistinct eqb keys → lists keys key ≡ true → length (from_key (first_of (behind key keys)) keys) < length (from_key (Some key) keys)
walk_less key keys distinct there = omega (arith, ap (λ (l : List ℕ). length l) (from_next key keys distinct there))

-- ---- lists of keys
-- what is said alike of each key is listed alike
pub map_same : {X : Type 0} (f g : ℕ → X) (keys : List ℕ) → ((k : ℕ) → lists keys k ≡ true → f k ≡ g k) → map f keys ≡ map g keys
map_same f g [] same = refl
map_same f g (k ∷ keys) same = λ i. same k (or_left (eqb k k) (lists keys k) (eq-eqb k k refl)) i ∷ map_same f g keys (λ j there. same j (or_right (eqb j k) (lists keys j) there)) i

-- if one passes a test, it is a key's
pub any_found : {X : Type 0} (test : X → Bool) (f : ℕ → X) (keys : List ℕ) → list_any test (map f keys) ≡ true → (k : ℕ) × (lists keys k ≡ true) × (test (f k) ≡ true)
any_found test f [] h = absurd (false≢true h)
any_found test f (k ∷ keys) h = elim (or_cases (test (f k)) (list_any test (map f keys)) h) [
  | inl here ↦ (k, or_left (eqb k k) (lists keys k) (eq-eqb k k refl), here)
  | inr later ↦ let found = any_found test f keys later in (found.0, or_right (eqb found.0 k) (lists keys found.0) found.1, found.2)
]

-- and if a key's passes it, one does
pub any_from : {X : Type 0} (test : X → Bool) (f : ℕ → X) (keys : List ℕ) (k : ℕ) → lists keys k ≡ true → test (f k) ≡ true → list_any test (map f keys) ≡ true
any_from test f [] k there passes = absurd (false≢true there)
any_from test f (j ∷ keys) k there passes = elim (or_cases (eqb k j) (lists keys k) there) [
  | inl here ↦ or_left (test (f j)) (list_any test (map f keys)) (rw (sym (eqb-true k j here)) passes)
  | inr later ↦ or_right (test (f j)) (list_any test (map f keys)) (any_from test f keys k later passes)
]

-- if no key's passes it, none does
pub any_none : {X : Type 0} (test : X → Bool) (f : ℕ → X) (keys : List ℕ) → ((k : ℕ) → lists keys k ≡ true → test (f k) ≡ false) → list_any test (map f keys) ≡ false
any_none test f [] none = refl
any_none test f (k ∷ keys) none = or_from (test (f k)) (list_any test (map f keys)) (none k (or_left (eqb k k) (lists keys k) (eq-eqb k k refl))) (any_none test f keys (λ j there. none j (or_right (eqb j k) (lists keys j) there)))

-- a key whose value alone passes a test gives what is found
pub find_key : {X : Type 0} (test : X → Bool) (f : ℕ → X) (keys : List ℕ) (k : ℕ) → lists keys k ≡ true → test (f k) ≡ true → ((j : ℕ) → lists keys j ≡ true → test (f j) ≡ true → j ≡ k) → find test (map f keys) ≡ Some (f k)
find_key test f [] k there passes one = absurd (false≢true there)
find_key test f (j ∷ keys) k there passes one = elim (cases_Bool (test (f j))) [
  | inl e ↦ let same : j ≡ k = one j (or_left (eqb j j) (lists keys j) (eq-eqb j j refl)) e in ap (λ b. cond b (Some (f j)) (find test (map f keys))) e ∙ ap (λ n. Some (f n)) same
  | inr e ↦ elim (or_cases (eqb k j) (lists keys k) there) [
    | inl here ↦ absurd (both_ways (test (f j)) e (rw (sym (eqb-true k j here)) passes))
    | inr later ↦ ap (λ b. cond b (Some (f j)) (find test (map f keys))) e ∙ find_key test f keys k later passes (λ i among. one i (or_right (eqb i j) (lists keys i) among))
  ]
]

pub find_none : {X : Type 0} (test : X → Bool) (f : ℕ → X) (keys : List ℕ) → ((k : ℕ) → lists keys k ≡ true → test (f k) ≡ false) → find test (map f keys) ≡ None
find_none test f [] none = refl
find_none test f (k ∷ keys) none = ap (λ b. cond b (Some (f k)) (find test (map f keys))) (none k (or_left (eqb k k) (lists keys k) (eq-eqb k k refl))) ∙ find_none test f keys (λ j there. none j (or_right (eqb j k) (lists keys j) there))

-- what is found is a key's
pub find_found : {X : Type 0} (test : X → Bool) (f : ℕ → X) (keys : List ℕ) (x : X) → find test (map f keys) ≡ Some x → (k : ℕ) × (lists keys k ≡ true) × (test (f k) ≡ true) × (f k ≡ x)
find_found test f [] x found = cc found
find_found test f (k ∷ keys) x found = elim (cases_Bool (test (f k))) [
  | inl e ↦ let same : Some (f k) ≡ Some x = sym (ap (λ b. cond b (Some (f k)) (find test (map f keys))) e) ∙ found in (k, or_left (eqb k k) (lists keys k) (eq-eqb k k refl), e, cc same)
  | inr e ↦
      let rest = find_found test f keys x (sym (ap (λ b. cond b (Some (f k)) (find test (map f keys))) e) ∙ found) in
      (rest.0, or_right (eqb rest.0 k) (lists keys rest.0) rest.1, rest.2, rest.3)
]

-- what differs for different keys is distinct
pub distinct_map : (f : ℕ → ℕ) (keys : List ℕ) → IsDistinct eqb keys → ((j k : ℕ) → lists keys j ≡ true → lists keys k ≡ true → f j ≡ f k → j ≡ k) → IsDistinct eqb (map f keys)
distinct_map f [] distinct apart = distinct_none
distinct_map f (k ∷ keys) distinct apart =
    distinct_cons (f k) (map f keys)
    (any_none (eqb (f k)) f keys (λ j there. ne_eqb (f k) (f j) (λ same.
    both_ways (lists keys k) (distinct_head k keys distinct) (rw (apart k j (or_left (eqb k k) (lists keys k) (eq-eqb k k refl)) (or_right (eqb j k) (lists keys j) there) same) there))))
    (distinct_map f keys (distinct_tail k keys distinct) (λ i j one other. apart i j (or_right (eqb i k) (lists keys i) one) (or_right (eqb j k) (lists keys j) other)))

-- ---- keys without one

-- every chain is without the key that was unlinked
pub chains_without : (table new : Chained) (k c : ℕ) → IsConsistent table → home_of table k ≡ Some c → new ≡ unlinked k table → (d : ℕ) → chain_of new d ≡ without k (chain_of table d)
chains_without table new k c sound home is d =
    let change = unlinks c k table new home is in
    elim (cases_eq d c) [
      | inl here ↦ rw here change.chain
      | inr apart ↦ change.chains d apart ∙ sym (without_unlisted k (chain_of table d) (listed_once table sound k c d home apart))
    ]

-- the key has no home, and each other key has the one that it had
pub homes_without : (table new : Chained) (k c : ℕ) → home_of table k ≡ Some c → new ≡ unlinked k table → (j : ℕ) → home_of new j ≡ cond (eqb j k) None (home_of table j)
homes_without table new k c home is j =
    let change = unlinks c k table new home is in
    elim (cases_Bool (eqb j k)) [
      | inl here ↦ rw (here, eqb-true j k here) change.home
      | inr apart ↦ rw apart (change.homes j (eqb-false j k apart))
    ]

-- ---- tables that show the same
pub chain_same : (old new : Chained) → new.chains ≡ old.chains → (c : ℕ) → chain_of new c ≡ chain_of old c
unfolding chain_of
chain_same old new same c = ap (λ (l : List (List ℕ)). slice_index_or l c []) same

pub home_same : (old new : Chained) → new.homes ≡ old.homes → (k : ℕ) → home_of new k ≡ home_of old k
unfolding home_of
home_same old new same k = ap (λ (l : List (Option ℕ)). slice_index_or l k None) same
