-- The labels of nodes as they are written.
use Rattle.std.proofs.Common.{◌≡◌, ℕ, ◌+◌, ◌<◌, Bool, true, false, cond, eqb, ◌&&◌, ◌||◌, List, [], length, get_or, set, take, Option, Some, None, refl, sym, ap, ◌∙◌, arith, inl, inr}
use Rattle.std.proofs.lemmas.Bool.{cases_eq, eq-eqb, ne_eqb, or_right, and_from, and_right, cond-true}
use Rattle.std.proofs.lemmas.List.{take_more, get_or-set_same, get_or-set_other}
use Rattle.asset_names.specs.Arrows.{lists}
use Rattle.asset_names.proofs.Common.{or_false}
use Rattle.asset_names.proofs.ListLemmas.{lists_pushed}

-- the first nodes that are met ahead have their label if they are met behind too, and the others have what they had
abbrev pub IsLabelled : List ℕ → (ℕ → Bool) → ℕ → List (Option ℕ) → List (Option ℕ) → Type 0
IsLabelled nodes behind label was labels = (n : ℕ) → n < length was → get_or labels n None ≡ cond (lists nodes n && behind n) (Some label) (get_or was n None)

pub none_labelled : (behind : ℕ → Bool) (label : ℕ) (was : List (Option ℕ)) → IsLabelled [] behind label was was
unfolding lists
none_labelled behind label was n below = refl

-- one more node, which is met behind too
pub one_labelled : (nodes : List ℕ) (behind : ℕ → Bool) (label k node : ℕ) (was labels : List (Option ℕ)) → k < length nodes → node ≡ get_or nodes k 0 → length labels ≡ length was → node < length was → behind node ≡ true
    → IsLabelled (take k nodes) behind label was labels → IsLabelled (take (k + 1) nodes) behind label was (set labels node (Some label))
one_labelled nodes behind label k node was labels below is long inside passes before n within =
    let more : lists (take (k + 1) nodes) n ≡ (lists (take k nodes) n || eqb node n) = ap (λ (l : List ℕ). lists l n) (take_more nodes k 0 below) ∙ lists_pushed (take k nodes) (get_or nodes k 0) n ∙ ap (λ m. lists (take k nodes) n || eqb m n) (sym is) in
    elim (cases_eq n node) [
      | inl here ↦
          let there : (lists (take (k + 1) nodes) n && behind n) ≡ true = and_from _ _ (more ∙ or_right (lists (take k nodes) n) _ (eq-eqb node n (sym here))) (ap behind here ∙ passes) in
          ap (λ m. get_or (set labels node (Some label)) m None) here ∙ get_or-set_same labels node (Some label) None (omega (arith, long, inside)) ∙ sym (cond-true _ (Some label) (get_or was n None) there)
      | inr other ↦
          let same : lists (take (k + 1) nodes) n ≡ lists (take k nodes) n = more ∙ ap (λ b. lists (take k nodes) n || b) (ne_eqb node n (λ e. other (sym e))) ∙ or_false _ in
          get_or-set_other labels node n (Some label) None other ∙ before n within ∙ ap (λ b. cond (b && behind n) (Some label) (get_or was n None)) (sym same)
    ]

-- one more node, which is not met behind
pub one_passed : (nodes : List ℕ) (behind : ℕ → Bool) (label k node : ℕ) (was labels : List (Option ℕ)) → k < length nodes → node ≡ get_or nodes k 0 → behind node ≡ false
    → IsLabelled (take k nodes) behind label was labels → IsLabelled (take (k + 1) nodes) behind label was labels
one_passed nodes behind label k node was labels below is fails before n within =
    before n within ∙ ap (λ b. cond b (Some label) (get_or was n None)) (sym same) where
      more : lists (take (k + 1) nodes) n ≡ (lists (take k nodes) n || eqb node n)
      more = ap (λ (l : List ℕ). lists l n) (take_more nodes k 0 below) ∙ lists_pushed (take k nodes) (get_or nodes k 0) n ∙ ap (λ m. lists (take k nodes) n || eqb m n) (sym is)

      same : (lists (take (k + 1) nodes) n && behind n) ≡ (lists (take k nodes) n && behind n)
      same = elim (cases_eq n node) [
        | inl here ↦ and_right _ (behind n) (ap behind here ∙ fails) ∙ sym (and_right _ (behind n) (ap behind here ∙ fails))
        | inr other ↦ ap (λ b. b && behind n) (more ∙ ap (λ b. lists (take k nodes) n || b) (ne_eqb node n (λ e. other (sym e))) ∙ or_false _)
      ]
