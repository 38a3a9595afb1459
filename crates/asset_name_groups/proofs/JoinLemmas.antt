-- A join of two groups, whichever root stays above.
use Rattle.std.proofs.Common.{◌≡◌, ◌≢◌, ℕ, ◌||◌, min, cond, eqb, ltb, Bool, true, false, true≢false, List, length, get_or, map, refl, sym, ◌∙◌, arith, inl, inr}
use Rattle.std.specs.List.{range_with_len}
use Rattle.std.proofs.lemmas.Bool.{or_left, or_right, and_from, lt-ltb, eq-eqb, cases_lt}
use Rattle.asset_name_groups.specs.declared.trees.Tree.{Tree}
use Rattle.asset_name_groups.specs.Labelled.{merged}
use Rattle.asset_name_groups.specs.NamesInGroups.{flag_at, merged_flags}
use Rattle.asset_name_groups.specs.Roots.{stays_above}
use Rattle.asset_name_groups.proofs.LabelLemmas.{merged_is}

either : (x y : Bool) → (x || y) ≡ (y || x)
either true true = refl
either true false = refl
either false true = refl
either false false = refl

-- the order of two labels does not matter
pub merged_turned : (labels : List ℕ) (a b : ℕ) → merged labels b a ≡ merged labels a b
merged_turned labels a b =
    let least : min b a ≡ min a b = omega arith in
    sym (merged_is labels b a) ∙ (λ i. map (λ label. cond (either (eqb label b) (eqb label a) i) (least i) label) labels) ∙ merged_is labels a b

pub flags_turned : (labels : List ℕ) (flags : List Bool) (a b : ℕ) → merged_flags labels flags b a ≡ merged_flags labels flags a b
unfolding merged_flags
flags_turned labels flags a b =
    λ i. map (λ k. cond (either (eqb (get_or labels k 0) b) (eqb (get_or labels k 0) a) i) (either (flag_at flags b) (flag_at flags a) i) (flag_at flags k)) (range_with_len 0 (length labels))

-- one of two roots stays above the other
pub one_above : (a b : Tree) → stays_above a b ≡ false → a.root ≢ b.root → stays_above b a ≡ true
unfolding stays_above
one_above a b below apart = elim (cases_lt a.rank b.rank) [
  | inl greater ↦ or_left _ _ (lt-ltb a.rank b.rank greater)
  | inr low ↦ elim (cases_lt b.rank a.rank) [
    | inl less ↦ absurd (true≢false (sym (or_left (ltb b.rank a.rank) _ (lt-ltb b.rank a.rank less)) ∙ below))
    | inr high ↦
        let same : a.rank ≡ b.rank = omega (arith, low, high) in
        or_right (ltb a.rank b.rank) _ (and_from _ _ (eq-eqb a.rank b.rank same) (elim (cases_lt b.root a.root) [
          | inl earlier ↦ lt-ltb b.root a.root earlier
          | inr later ↦ absurd (true≢false (sym (or_right (ltb b.rank a.rank) _ (and_from _ _ (eq-eqb b.rank a.rank (sym same)) (lt-ltb a.root b.root (omega (arith, later, apart))))) ∙ below))
        ]))
  ]
]
