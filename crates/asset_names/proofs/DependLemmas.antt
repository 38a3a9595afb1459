-- The arrows of dependencies, and what one more dependency adds.
use Rattle.std.proofs.Common.{◌≡◌, ℕ, Bool, true, false, cond, eqb, ◌&&◌, ◌||◌, List, [], ◌∷◌, ◌++◌, refl, sym, ◌∙◌, arith, ◌⊎◌, inl, inr}
use Rattle.std.specs.List.{list_any}
use Rattle.std.proofs.lemmas.Bool.{or_cases, and_parts, eqb-true}
use Rattle.asset_names.specs.declared.names.Txn.{Txn}
use Rattle.asset_names.specs.declared.steps.Kind.{Kind}
use Rattle.asset_names.specs.declared.steps.Step.{Step}
use Rattle.asset_names.specs.declared.steps.Step.TheVariants.{Depend}
use Rattle.asset_names.specs.Arrows.{Arrow, has_arrow}
use Rattle.asset_names.specs.Paths.{same_kind, both_ways}
use Rattle.asset_names.specs.Endings.{dependency_by, dependencies}

-- an arrow of two lists
pub has_append : (xs ys : List Arrow) (u v : ℕ) → has_arrow (xs ++ ys) u v ≡ (has_arrow xs u v || has_arrow ys u v)
unfolding has_arrow
has_append [] ys u v = refl
has_append (x ∷ xs) ys u v = rw (has_append xs ys u v) (grind arith)

-- an arrow, or its reverse
pub has_both : (arrows : List Arrow) (u v : ℕ) → has_arrow (both_ways arrows) u v ≡ (has_arrow arrows u v || has_arrow arrows v u)
unfolding has_arrow both_ways
has_both [] u v = refl
has_both (arrow ∷ arrows) u v =
    rw (has_both arrows u v) (go (eqb arrow.0 u) (eqb arrow.1 v) (eqb arrow.1 u) (eqb arrow.0 v) (has_arrow arrows u v) (has_arrow arrows v u)) where
      go : (a b c d x y : Bool) → ((a && b) || ((c && d) || (x || y))) ≡ (((a && b) || x) || ((d && c) || y))
      go a b c d x y = swapped (a && b) (c && d) (d && c) x y (flipped c d) where
        flipped : (c d : Bool) → (c && d) ≡ (d && c)
        flipped true true = refl
        flipped true false = refl
        flipped false true = refl
        flipped false false = refl

        swapped : (p q r x y : Bool) → q ≡ r → (p || (q || (x || y))) ≡ ((p || x) || (r || y))
        swapped true q r x y e = refl
        swapped false q r true y e = or_true q where
          or_true : (q : Bool) → (q || true) ≡ true
          or_true true = refl
          or_true false = refl
        swapped false q r false y e = rw e refl

-- the arrows of dependencies after one more
pub dependencies_more : (kind : Kind) (a b : Txn) (steps : List Step) (k : Kind) (u v : ℕ)
    → has_arrow (dependencies k (Depend kind a b ∷ steps)) u v ≡ ((same_kind k kind && (eqb a.0 u && eqb b.0 v)) || has_arrow (dependencies k steps) u v)
unfolding dependencies dependency_by has_arrow
dependencies_more kind a b steps k u v = go (same_kind k kind) where
  go : (same : Bool) → list_any (λ (arrow : Arrow). eqb arrow.0 u && eqb arrow.1 v) (cond same ((a.0, b.0) ∷ []) [] ++ dependencies k steps)
      ≡ ((same && (eqb a.0 u && eqb b.0 v)) || list_any (λ (arrow : Arrow). eqb arrow.0 u && eqb arrow.1 v) (dependencies k steps))
  go true = refl
  go false = refl

-- an arrow after one more dependency is that of the dependency, or it was there before
pub depend_arrow : (kind : Kind) (a b : Txn) (steps : List Step) (k : Kind) (u v : ℕ) → has_arrow (dependencies k (Depend kind a b ∷ steps)) u v ≡ true
    → ((a.0 ≡ u) × (b.0 ≡ v)) ⊎ (has_arrow (dependencies k steps) u v ≡ true)
depend_arrow kind a b steps k u v h = elim (or_cases _ (has_arrow (dependencies k steps) u v) (sym (dependencies_more kind a b steps k u v) ∙ h)) [
  | inl here ↦ let ends = and_parts (eqb a.0 u) (eqb b.0 v) (and_parts (same_kind k kind) _ here).1 in inl (eqb-true a.0 u ends.0, eqb-true b.0 v ends.1)
  | inr before ↦ inr before
]
