-- Arrows that lead alike, and who allows whom by permits.
use Rattle.std.proofs.Common.{◌≡◌, ℕ, zero, suc, Bool, true, false, cond, eqb, ◌&&◌, ◌||◌, List, [], ◌∷◌, ◌++◌, refl, sym, ◌∙◌, arith, inl, inr}
use Rattle.std.specs.List.{list_any, Contains}
use Rattle.std.proofs.lemmas.Bool.{or_cases, or_left, or_right, and_from, and_parts, eqb-true, eq-eqb, false≢true}
use Rattle.std.proofs.lemmas.List.Elements.{Contains-append_cases}
use Rattle.asset_names.specs.declared.names.Txn.{Txn}
use Rattle.asset_names.specs.declared.operations.Op.{Op}
use Rattle.asset_names.specs.declared.sets.ObSet.{ObSet}
use Rattle.asset_names.specs.declared.steps.Step.{Step}
use Rattle.asset_names.specs.declared.steps.Step.TheVariants.{Permit}
use Rattle.asset_names.specs.InSet.{in_set}
use Rattle.asset_names.specs.Arrows.{Arrow, linked, among, has_arrow, Chain}
use Rattle.asset_names.specs.Arrows.Chain.{stay, along}
use Rattle.asset_names.specs.Endings.{live}
use Rattle.asset_names.specs.Operations.{permits, permitted_by, permits_along}
use Rattle.asset_names.specs.OpSets.{has_op, OpSet}
use Rattle.asset_names.proofs.Arrows.{linked_refl, linked_trans, chain_from_linked}

-- an arrow that is listed leads
pub has_listed : (arrows : List Arrow) (a b : ℕ) → Contains arrows (a, b) → has_arrow arrows a b ≡ true
unfolding has_arrow
has_listed [] a b h = absurd (omega (arith, h.1))
has_listed (arrow ∷ arrows) a b h = elim (Contains-append_cases (arrow ∷ []) arrows (a, b) h) [
  | inl first ↦ or_left _ _ (here first)
  | inr later ↦ or_right _ _ (has_listed arrows a b later)
] where
  here : Contains (arrow ∷ []) (a, b) → (eqb arrow.0 a && eqb arrow.1 b) ≡ true
  here (zero, below, is) = rw is (and_from _ _ (eq-eqb a a refl) (eq-eqb b b refl))
  here (suc k, below, is) = absurd (omega arith)

-- an arrow that leads links
pub linked_has : (arrows : List Arrow) (a b : ℕ) → has_arrow arrows a b ≡ true → linked arrows a b ≡ true
unfolding has_arrow linked
linked_has [] a b h = absurd (false≢true h)
linked_has (arrow ∷ arrows) a b h = elim (or_cases (eqb arrow.0 a && eqb arrow.1 b) _ h) [
  | inl here ↦
      let ends = and_parts (eqb arrow.0 a) (eqb arrow.1 b) here in
      let to : linked arrows a arrow.0 ≡ true = rw (eqb-true arrow.0 a ends.0) (linked_refl arrows a) in
      let on : linked arrows arrow.1 b ≡ true = rw (eqb-true arrow.1 b ends.1) (linked_refl arrows b) in
      or_right _ _ (and_from _ _ to on)
  | inr later ↦ or_left _ _ (linked_has arrows a b later)
]

-- what is linked by arrows is linked by those that lead as these do, and perhaps by more
pub linked_more : (fewer more : List Arrow) → ((u v : ℕ) → has_arrow fewer u v ≡ true → has_arrow more u v ≡ true) → (a b : ℕ) → linked fewer a b ≡ true → linked more a b ≡ true
linked_more fewer more leads a b h = go a b (chain_from_linked fewer a b h) where
  go : (a b : ℕ) → Chain fewer a b → linked more a b ≡ true
  go a b (stay n) = linked_refl more a
  go a c (along m b n first rest) = linked_trans more a b c (linked_has more a b (leads a b (has_listed fewer a b first))) (go b c rest)

-- arrows that lead alike link alike
pub linked_same : (ones others : List Arrow) → ((u v : ℕ) → has_arrow ones u v ≡ has_arrow others u v) → (a b : ℕ) → linked ones a b ≡ linked others a b
linked_same ones others same a b = go (linked ones a b) refl (linked others a b) refl where
  to : linked ones a b ≡ true → linked others a b ≡ true
  to = linked_more ones others (λ u v h. rw (← same u v) h) a b

  back : linked others a b ≡ true → linked ones a b ≡ true
  back = linked_more others ones (λ u v h. rw (same u v) h) a b

  go : (one : Bool) → linked ones a b ≡ one → (other : Bool) → linked others a b ≡ other → one ≡ other
  go true e true f = refl
  go false e false f = refl
  go true e false f = sym (to e) ∙ f
  go false e true f = sym e ∙ back f

-- the arrows whose ends pass a test
pub has_among : (test : ℕ → Bool) (arrows : List Arrow) (u v : ℕ) → has_arrow (among test arrows) u v ≡ (test u && test v && has_arrow arrows u v)
unfolding has_arrow among
has_among test [] u v = grind arith
has_among test (arrow ∷ arrows) u v = go (eqb arrow.0 u) refl (eqb arrow.1 v) refl (test arrow.0 && test arrow.1) refl (has_among test arrows u v) where
  go : (from : Bool) → eqb arrow.0 u ≡ from → (to : Bool) → eqb arrow.1 v ≡ to → (kept : Bool) → (test arrow.0 && test arrow.1) ≡ kept
      → has_arrow (among test arrows) u v ≡ (test u && test v && has_arrow arrows u v)
      → has_arrow (cond kept (arrow ∷ among test arrows) (among test arrows)) u v ≡ (test u && test v && ((from && to) || has_arrow arrows u v))
  go true e true f true k ih = rw (e, f, ← eqb-true arrow.0 u e, ← eqb-true arrow.1 v f, k) refl
  go true e true f false k ih = rw (ih, ← eqb-true arrow.0 u e, ← eqb-true arrow.1 v f, k) refl
  go true e false f true k ih = rw (e, f, ih) refl
  go true e false f false k ih = ih
  go false e to f true k ih = rw (e, ih) refl
  go false e to f false k ih = ih

-- along permits, by any arrows that lead as the permits between live transactions do
pub along_linked : (steps : List Step) (x : ℕ) (op : Op) (arrows : List Arrow) → ((u v : ℕ) → has_arrow arrows u v ≡ (live steps u && live steps v && has_arrow (permits steps x op) u v))
    → (u t : ℕ) → linked arrows u t ≡ permits_along steps u t x op
unfolding permits_along
along_linked steps x op arrows same u t = linked_same arrows (among (live steps) (permits steps x op)) (λ u v. same u v ∙ sym (has_among (live steps) (permits steps x op) u v)) u t

-- the arrows after a permit
pub arrows_permitted : (giver taker : Txn) (obs : ObSet) (ops : OpSet) (steps : List Step) (x : ℕ) (op : Op) (u v : ℕ)
    → has_arrow (permits (Permit giver taker obs ops ∷ steps) x op) u v ≡ ((eqb giver.0 u && eqb taker.0 v && (in_set obs x && has_op ops op)) || has_arrow (permits steps x op) u v)
unfolding has_arrow permits permitted_by
arrows_permitted giver taker obs ops steps x op u v = go (in_set obs x && has_op ops op) where
  go : (covered : Bool) → list_any (λ (arrow : Arrow). eqb arrow.0 u && eqb arrow.1 v) (cond covered ((giver.0, taker.0) ∷ []) [] ++ permits steps x op)
      ≡ ((eqb giver.0 u && eqb taker.0 v && covered) || list_any (λ (arrow : Arrow). eqb arrow.0 u && eqb arrow.1 v) (permits steps x op))
  go true = grind arith
  go false = grind arith
