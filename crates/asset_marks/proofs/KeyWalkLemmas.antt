-- A walk along a chain, from its first key to its last.
use Rattle.std.proofs.Common.{◌≡◌, ℕ, suc, ◌<◌, ◌||◌, Bool, true, false, eqb, List, [], ◌∷◌, ◌++◌, length, Option, Some, None, refl, sym, ap, subst, ◌∙◌, arith, ◌⊎◌, inl, inr}
use Rattle.std.specs.List.{IsDistinct}
use Rattle.std.proofs.lemmas.Bool.{or_cases, or_parts, eqb-true, false≢true, true≢false, cond-true, cond-false, eq-eqb, false_from_ne_true, or_left}
use Rattle.asset_chains.specs.Chained.{Chained, chain_of, home_of, first_of, ahead, behind, lists, IsConsistent}
use Rattle.asset_chains.proofs.KeyLemmas.{lists-append, distinct_parts}
use Rattle.asset_chains.proofs.Laws.{chain_at_key, chain_at_first}

-- the keys that are passed once a walk is at this key, or at the end
abbrev pub passed : Option ℕ → List ℕ → List ℕ
passed None keys = keys
passed (Some k) keys = ahead k keys

-- how many keys are left
abbrev pub left : Option ℕ → List ℕ → ℕ
left None keys = 0
left (Some k) keys = suc (length (behind k keys))

-- the key at which a walk is, if it is not at the end, is in the chain
abbrev pub IsOn : Chained → ℕ → Option ℕ → Type 0
IsOn table c next = (k : ℕ) → next ≡ Some k → home_of table k ≡ Some c

ahead_at : (front back : List ℕ) (k : ℕ) → lists front k ≡ false → ahead k (front ++ k ∷ back) ≡ front
ahead_at [] back k absent = cond-true (eqb k k) [] (k ∷ ahead k back) (eq-eqb k k refl)
ahead_at (y ∷ front) back k absent =
    let parts = or_parts (eqb k y) (lists front k) absent in
    cond-false (eqb k y) [] (y ∷ ahead k (front ++ k ∷ back)) parts.0 ∙ ap (λ (rest : List ℕ). y ∷ rest) (ahead_at front back k parts.1)

behind_at : (front back : List ℕ) (k : ℕ) → lists front k ≡ false → behind k (front ++ k ∷ back) ≡ back
behind_at [] back k absent = cond-true (eqb k k) back (behind k back) (eq-eqb k k refl)
behind_at (y ∷ front) back k absent =
    let parts = or_parts (eqb k y) (lists front k) absent in
    cond-false (eqb k y) (front ++ k ∷ back) (behind k (front ++ k ∷ back)) parts.0 ∙ behind_at front back k parts.1

-- at the start no key is passed
pub walk_starts : (table : Chained) (c : ℕ) → IsConsistent table → (next : Option ℕ) → next ≡ first_of (chain_of table c)
    → IsOn table c next × ((k : ℕ) → lists (passed next (chain_of table c)) k ≡ true → ⊥)
walk_starts table c sound next is = (λ k at. (chain_at_first k c table sound (sym is ∙ at)).0, λ k. none next is k) where
  nothing : (keys : List ℕ) → None ≡ first_of keys → (k : ℕ) → lists keys k ≡ true → ⊥
  nothing [] e k there = false≢true there
  nothing (y ∷ keys) e k there = cc e

  none : (o : Option ℕ) → o ≡ first_of (chain_of table c) → (k : ℕ) → lists (passed o (chain_of table c)) k ≡ true → ⊥
  none None e k there = nothing (chain_of table c) e k there
  none (Some first) e k there = false≢true (ap (λ (keys : List ℕ). lists keys k) (sym (chain_at_first first c table sound (sym e)).1) ∙ there)

module _ (table : Chained) (c k : ℕ) (sound : IsConsistent table) (home : home_of table k ≡ Some c) where
  cut : chain_of table c ≡ ahead k (chain_of table c) ++ k ∷ behind k (chain_of table c)
  cut = chain_at_key k c table sound home

  -- a key that is passed then is this one, or was passed before
  passes : (j : ℕ) → (lists (ahead k (chain_of table c)) j || lists (k ∷ []) j) ≡ true → (j ≡ k) ⊎ (lists (ahead k (chain_of table c)) j ≡ true)
  passes j h = elim (or_cases (lists (ahead k (chain_of table c)) j) (lists (k ∷ []) j) h) [
    | inl before ↦ inr before
    | inr here ↦ elim (or_cases (eqb j k) false here) [ inl same ↦ inl (eqb-true j k same) | inr wrong ↦ absurd (false≢true wrong) ]
  ]

  -- the next key, if there is one, is in the chain; this key is passed, and fewer are left
  step : (rest : List ℕ) → behind k (chain_of table c) ≡ rest → IsOn table c (first_of rest)
      × ((j : ℕ) → lists (passed (first_of rest) (chain_of table c)) j ≡ true → (j ≡ k) ⊎ (lists (ahead k (chain_of table c)) j ≡ true))
      × (left (first_of rest) (chain_of table c) < left (Some k) (chain_of table c))
  step [] is = (λ j at. cc at, λ j there. passes j (sym (lists-append (ahead k (chain_of table c)) (k ∷ []) j) ∙ sym (ap (λ (keys : List ℕ). lists keys j) all) ∙ there), omega arith) where
    all : chain_of table c ≡ ahead k (chain_of table c) ++ k ∷ []
    all = cut ∙ ap (λ (rest : List ℕ). ahead k (chain_of table c) ++ k ∷ rest) is
  step (n ∷ rest) is = (λ j at. on j at, λ j there. passes j (sym (lists-append (ahead k (chain_of table c)) (k ∷ []) j) ∙ sym (ap (λ (keys : List ℕ). lists keys j) now_ahead) ∙ there), fewer) where
    front : List ℕ
    front = ahead k (chain_of table c) ++ k ∷ []

    regroup : (xs : List ℕ) → xs ++ k ∷ n ∷ rest ≡ (xs ++ k ∷ []) ++ n ∷ rest
    regroup [] = refl
    regroup (y ∷ xs) = ap (λ (l : List ℕ). y ∷ l) (regroup xs)

    split : chain_of table c ≡ front ++ n ∷ rest
    split = cut ∙ ap (λ (rest : List ℕ). ahead k (chain_of table c) ++ k ∷ rest) is ∙ regroup (ahead k (chain_of table c))

    listed : lists (chain_of table c) n ≡ true
    listed = ap (λ (keys : List ℕ). lists keys n) split ∙ lists-append front (n ∷ rest) n ∙ or_right_of (lists front n) where
      or_right_of : (b : Bool) → (b || lists (n ∷ rest) n) ≡ true
      or_right_of true = refl
      or_right_of false = or_left (eqb n n) (lists rest n) (eq-eqb n n refl)

    absent : lists front n ≡ false
    absent = false_from_ne_true (lists front n) (λ there.
        true≢false (sym (or_left (eqb n n) (lists rest n) (eq-eqb n n refl)) ∙ (distinct_parts front (n ∷ rest) (subst (IsDistinct eqb) split (sound.once c))).2 n there))

    on : (j : ℕ) → Some n ≡ Some j → home_of table j ≡ Some c
    on j at = let same : n ≡ j = cc at in ap (home_of table) (sym same) ∙ sound.at_home c n listed

    now_ahead : ahead n (chain_of table c) ≡ front
    now_ahead = ap (ahead n) split ∙ ahead_at front rest n absent

    now_behind : behind n (chain_of table c) ≡ rest
    now_behind = ap (behind n) split ∙ behind_at front rest n absent

    fewer : suc (length (behind n (chain_of table c))) < suc (length (behind k (chain_of table c)))
    fewer = omega (arith, ap length now_behind, ap length is)

-- after a step from this key the next one, if there is one, is in the chain, only this key was passed and those that were
-- passed before, and fewer are left
pub walk_steps : (table : Chained) (c k : ℕ) → IsConsistent table → (now next : Option ℕ) → now ≡ Some k → IsOn table c now → (home_of table k ≡ Some c → next ≡ first_of (behind k (chain_of table c)))
    → IsOn table c next
    × ((j : ℕ) → lists (passed next (chain_of table c)) j ≡ true → (j ≡ k) ⊎ (lists (passed now (chain_of table c)) j ≡ true))
    × (left next (chain_of table c) < left now (chain_of table c))
walk_steps table c k sound now next is on is_next = rw (is, is_next (on k is)) (step table c k sound (on k is) (behind k (chain_of table c)) refl)
