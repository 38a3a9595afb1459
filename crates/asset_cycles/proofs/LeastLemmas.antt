-- The least number below a bound that passes a test.
use Rattle.std.proofs.Common.{◌≡◌, ℕ, zero, suc, ◌+◌, ◌<◌, Bool, true, false, cond, List, [], ◌∷◌, ◌++◌, Option, Some, None, refl, sym, ap, ◌∙◌, add-one, arith, ◌⊎◌, inl, inr}
use Rattle.std.specs.List.{find, range_with_len}
use Rattle.std.specs.Option.{option_or}
use Rattle.std.proofs.lemmas.Bool.{cases_eq, cases_order, true≢false}
use Rattle.std.proofs.lemmas.List.{map-id}
use Rattle.std.proofs.lemmas.List.Folds.{find-append}
use Rattle.std.proofs.lemmas.List.FromFn.{map-range_with_len_more}

-- one number more
range_more : (n : ℕ) → range_with_len 0 (n + 1) ≡ range_with_len 0 n ++ n ∷ []
range_more n = sym (map-id (range_with_len 0 (n + 1))) ∙ map-range_with_len_more (λ k. k) 0 n n (omega arith) ∙ ap (λ (l : List ℕ). l ++ n ∷ []) (map-id (range_with_len 0 n))

pub find_more : (test : ℕ → Bool) (n : ℕ) → find test (range_with_len 0 (n + 1)) ≡ option_or (find test (range_with_len 0 n)) (cond (test n) (Some n) None)
find_more test n = ap (find test) (range_more n) ∙ find-append test (range_with_len 0 n) (n ∷ [])

-- a number that is found is below the bound, passes, and is the least that passes
pub record IsLeast (test : ℕ → Bool) (bound k : ℕ) : Type 0 where
  pub below : k < bound
  pub passes : test k ≡ true
  pub least : (j : ℕ) → j < k → test j ≡ false

-- what an answer says of the numbers before the last one, and of the last one
or_none : (before : Option ℕ) (here : Bool) (n : ℕ) → option_or before (cond here (Some n) None) ≡ None → (before ≡ None) × (here ≡ false)
or_none (Some m) here n is = cc is
or_none None true n is = cc is
or_none None false n is = (refl, refl)

or_some : (before : Option ℕ) (here : Bool) (n k : ℕ) → option_or before (cond here (Some n) None) ≡ Some k → (before ≡ Some k) ⊎ ((before ≡ None) × (here ≡ true) × (n ≡ k))
or_some (Some m) here n k is = inl is
or_some None true n k is = inr (refl, refl, cc is)
or_some None false n k is = cc is

find_suc : (test : ℕ → Bool) (n : ℕ) → find test (range_with_len 0 (suc n)) ≡ option_or (find test (range_with_len 0 n)) (cond (test n) (Some n) None)
find_suc test n = ap (λ k. find test (range_with_len 0 k)) (sym (add-one n)) ∙ find_more test n

-- where none is found, none passes
pub none_passes : (test : ℕ → Bool) (n : ℕ) → find test (range_with_len 0 n) ≡ None → (k : ℕ) → k < n → test k ≡ false
none_passes test zero none k below = absurd (omega (arith, below))
none_passes test (suc n) none k below =
    let parts = or_none (find test (range_with_len 0 n)) (test n) n (sym (find_suc test n) ∙ none) in
    elim (cases_eq k n) [
      | inl last ↦ ap test last ∙ parts.1
      | inr other ↦ none_passes test n parts.0 k (omega (arith, below, other))
    ]

pub found_least : (test : ℕ → Bool) (n k : ℕ) → find test (range_with_len 0 n) ≡ Some k → IsLeast test n k
found_least test zero k found = cc found
found_least test (suc n) k found =
    elim (or_some (find test (range_with_len 0 n)) (test n) n k (sym (find_suc test n) ∙ found)) [
      | inl before ↦
          let least = found_least test n k before in
          record { below = omega (arith, least.below); passes = least.passes; least = least.least }
      | inr last ↦ record {
        below = omega (arith, last.2);
        passes = ap test (sym last.2) ∙ last.1;
        least = λ j earlier. none_passes test n last.0 j (omega (arith, last.2, earlier));
      }
    ]

-- a number that passes, and before which none does, is found
pub least_found : (test : ℕ → Bool) (n k : ℕ) → IsLeast test n k → find test (range_with_len 0 n) ≡ Some k
least_found test n k least = go (find test (range_with_len 0 n)) refl where
  go : (found : Option ℕ) → find test (range_with_len 0 n) ≡ found → found ≡ Some k
  go None is = absurd (true≢false (sym least.passes ∙ none_passes test n is k least.below))
  go (Some m) is = ap Some (elim (cases_order m k) [
    | inl same ↦ same
    | inr other ↦ elim other [
      | inl less ↦ absurd (true≢false (sym (found_least test n m is).passes ∙ least.least m less))
      | inr more ↦ absurd (true≢false (sym least.passes ∙ (found_least test n m is).least k more))
    ]
  ])
