-- Laws of what is reached along arrows.
use Rattle.std.proofs.Common.{◌≡◌, ℕ, zero, suc, true, eqb, ◌&&◌, List, [], ◌∷◌, refl, sym, subst, arith, ◌⊎◌, inl, inr}
use Rattle.std.specs.List.{Contains}
use Rattle.std.proofs.lemmas.Bool.{or_cases, or_left, or_right, and_from, and_parts, eqb-true, eq-eqb}
use Rattle.std.proofs.lemmas.List.Elements.{Contains-append_cases, Contains-append_right}
use Rattle.asset_names.specs.Arrows.{Arrow, linked, Chain}
use Rattle.asset_names.specs.Arrows.Chain.{stay, along}

-- what one more arrow links: a way without it, or a way to it and a way on
pub linked_ways : (arrow : Arrow) (arrows : List Arrow) (a b : ℕ) → linked (arrow ∷ arrows) a b ≡ true
    → (linked arrows a b ≡ true) ⊎ ((linked arrows a arrow.0 ≡ true) × (linked arrows arrow.1 b ≡ true))
unfolding linked
linked_ways arrow arrows a b h =
    elim (or_cases (linked arrows a b) (linked arrows a arrow.0 && linked arrows arrow.1 b) h)
    [ inl p ↦ inl p | inr q ↦ inr (and_parts (linked arrows a arrow.0) (linked arrows arrow.1 b) q) ]

linked_without : (arrow : Arrow) (arrows : List Arrow) (a b : ℕ) → linked arrows a b ≡ true → linked (arrow ∷ arrows) a b ≡ true
unfolding linked
linked_without arrow arrows a b h = or_left (linked arrows a b) _ h

linked_through : (arrow : Arrow) (arrows : List Arrow) (a b : ℕ) → linked arrows a arrow.0 ≡ true → linked arrows arrow.1 b ≡ true → linked (arrow ∷ arrows) a b ≡ true
unfolding linked
linked_through arrow arrows a b g h = or_right (linked arrows a b) _ (and_from (linked arrows a arrow.0) (linked arrows arrow.1 b) g h)

-- each name is linked to itself
pub linked_refl : (arrows : List Arrow) (a : ℕ) → linked arrows a a ≡ true
unfolding linked
linked_refl [] a = eq-eqb a a refl
linked_refl (arrow ∷ arrows) a = or_left _ _ (linked_refl arrows a)

-- two ways make one
pub linked_trans : (arrows : List Arrow) (a b c : ℕ) → linked arrows a b ≡ true → linked arrows b c ≡ true → linked arrows a c ≡ true
unfolding linked
linked_trans [] a b c g h = subst (λ n. eqb n c ≡ true) (sym (eqb-true a b g)) h
linked_trans (arrow ∷ arrows) a b c g h =
    elim (linked_ways arrow arrows a b g) [
      | inl p ↦ elim (linked_ways arrow arrows b c h) [
        | inl q ↦ linked_without arrow arrows a c (linked_trans arrows a b c p q)
        | inr q ↦ linked_through arrow arrows a c (linked_trans arrows a b arrow.0 p q.0) q.1
      ]
      | inr p ↦ elim (linked_ways arrow arrows b c h) [
        | inl q ↦ linked_through arrow arrows a c p.0 (linked_trans arrows arrow.1 b c p.1 q)
        | inr q ↦ linked_through arrow arrows a c p.0 q.1
      ]
    ]

-- the arrow of a list of one
first_is : (arrow : Arrow) (a b : ℕ) → Contains (arrow ∷ []) (a, b) → arrow ≡ (a, b)
first_is arrow a b (zero, below, is) = is
first_is arrow a b (suc k, below, is) = absurd (omega arith)

first_links : (arrow : Arrow) (arrows : List Arrow) (a b : ℕ) → Contains (arrow ∷ []) (a, b) → linked (arrow ∷ arrows) a b ≡ true
first_links arrow arrows a b h =
    let e : arrow ≡ (a, b) = first_is arrow a b h in
    linked_through arrow arrows a b (rw e (linked_refl arrows a)) (rw e (linked_refl arrows b))

-- an arrow links its two ends
pub linked_arrow : (arrows : List Arrow) (a b : ℕ) → Contains arrows (a, b) → linked arrows a b ≡ true
linked_arrow [] a b h = absurd (omega (arith, h.1))
linked_arrow (arrow ∷ arrows) a b h =
    elim (Contains-append_cases (arrow ∷ []) arrows (a, b) h) [
      | inl first ↦ first_links arrow arrows a b first
      | inr later ↦ linked_without arrow arrows a b (linked_arrow arrows a b later)
    ]

-- chains of fewer arrows are chains of more, and two chains make one
chain_more : (arrow : Arrow) (arrows : List Arrow) (a b : ℕ) → Chain arrows a b → Chain (arrow ∷ arrows) a b
chain_more arrow arrows a b (stay n) = stay a
chain_more arrow arrows a c (along m b n first rest) = along a b c (Contains-append_right (arrow ∷ []) arrows (a, b) first) (chain_more arrow arrows b c rest)

chain_trans : (arrows : List Arrow) (a b c : ℕ) → Chain arrows a b → Chain arrows b c → Chain arrows a c
chain_trans arrows a b c (stay n) h = h
chain_trans arrows a b c (along m n o first rest) h = along a n c first (chain_trans arrows n b c rest h)

-- a chain for each link, and a link for each chain
pub chain_from_linked : (arrows : List Arrow) (a b : ℕ) → linked arrows a b ≡ true → Chain arrows a b
unfolding linked
chain_from_linked [] a b h = subst (λ n. Chain [] a n) (eqb-true a b h) (stay a)
chain_from_linked (arrow ∷ arrows) a b h =
    elim (linked_ways arrow arrows a b h) [
      | inl p ↦ chain_more arrow arrows a b (chain_from_linked arrows a b p)
      | inr q ↦
          let to = chain_more arrow arrows a arrow.0 (chain_from_linked arrows a arrow.0 q.0) in
          let on = chain_more arrow arrows arrow.1 b (chain_from_linked arrows arrow.1 b q.1) in
          chain_trans (arrow ∷ arrows) a arrow.0 b to (along arrow.0 arrow.1 b (0, omega arith, refl) on)
    ]

pub linked_from_chain : (arrows : List Arrow) (a b : ℕ) → Chain arrows a b → linked arrows a b ≡ true
linked_from_chain arrows a b (stay n) = linked_refl arrows a
linked_from_chain arrows a c (along m b n first rest) = linked_trans arrows a b c (linked_arrow arrows a b first) (linked_from_chain arrows b c rest)
