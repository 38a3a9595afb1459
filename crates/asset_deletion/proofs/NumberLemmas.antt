-- The numbers of groups.
use Rattle.std.proofs.Common.{◌≡◌, ℕ, ◌<◌, ◌≤◌, cond, eqb, List, length, get_or, sym, ap, ◌∙◌, arith, suc, zero, inl, inr, true, false}
use Rattle.std.proofs.lemmas.Bool.{cases_eq, eq-eqb, ne_eqb, cond-true, cond-false}
use Rattle.std.proofs.lemmas.List.{length-map, get_or-map}
use Rattle.asset_deletion.specs.Numbered.{groups_before, group_numbers}

-- ---- one more node
pub counted : (labels : List ℕ) (n : ℕ) → get_or labels n 0 ≡ n → groups_before labels (suc n) ≡ suc (groups_before labels n)
unfolding groups_before
counted labels n own = cond-true (eqb (get_or labels n 0) n) (suc (groups_before labels n)) (groups_before labels n) (eq-eqb (get_or labels n 0) n own)

pub passed : (labels : List ℕ) (n : ℕ) → (get_or labels n 0 ≡ n → ⊥) → groups_before labels (suc n) ≡ groups_before labels n
unfolding groups_before
passed labels n not = cond-false (eqb (get_or labels n 0) n) (suc (groups_before labels n)) (groups_before labels n) (ne_eqb (get_or labels n 0) n not)

-- at most one more
one_more : (labels : List ℕ) (n : ℕ) → (groups_before labels n ≤ groups_before labels (suc n)) × (groups_before labels (suc n) ≤ suc (groups_before labels n))
unfolding groups_before
one_more labels n = elim (eqb (get_or labels n 0) n) as (λ b. (groups_before labels n ≤ cond b (suc (groups_before labels n)) (groups_before labels n)) × (cond b (suc (groups_before labels n)) (groups_before labels n) ≤ suc (groups_before labels n))) [
  | true ↦ (omega arith, omega arith)
  | false ↦ (omega arith, omega arith)
]

-- what is its own label counts from the next node on
pub before_more : (labels : List ℕ) (n k : ℕ) → k < n → get_or labels k 0 ≡ k → groups_before labels k < groups_before labels n
before_more labels zero k below own = absurd (omega arith)
before_more labels (suc n) k below own = elim (cases_eq k n) [
  | inl is ↦ rw is (omega (arith, counted labels n (ap (λ m. get_or labels m 0) (sym is) ∙ own ∙ is)))
  | inr not ↦ omega (arith, before_more labels n k (omega arith) own, (one_more labels n).0)
]

-- ---- the number of a node
pub number_at : (labels : List ℕ) (k : ℕ) → k < length labels → get_or (group_numbers labels) k 0 ≡ groups_before labels (get_or labels k 0)
unfolding group_numbers
number_at labels k below = get_or-map (groups_before labels) labels k 0 0 below

pub numbers_long : (labels : List ℕ) → length (group_numbers labels) ≡ length labels
unfolding group_numbers
numbers_long labels = length-map labels (groups_before labels)
