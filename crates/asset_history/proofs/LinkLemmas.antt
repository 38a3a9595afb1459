-- What arrows link, and what groups they make.
use Rattle.std.proofs.Common.{◌≡◌, ℕ, true, List, sym, ◌∙◌, inl, inr}
use Rattle.std.proofs.lemmas.Bool.{or_cases, or_left, or_right}
use Rattle.asset_names.specs.Arrows.{Arrow, has_arrow, linked, Chain}
use Rattle.asset_names.specs.Arrows.Chain.{stay, along}
use Rattle.asset_names.specs.Paths.{both_ways}
use Rattle.asset_names.proofs.Arrows.{linked_refl, linked_trans, chain_from_linked}
use Rattle.asset_names.proofs.PermitLemmas.{has_listed, linked_has}
use Rattle.asset_names.proofs.DependLemmas.{has_both}

-- an arrow, or its reverse, links
pub joins_one : (arrows : List Arrow) (m n : ℕ) → has_arrow arrows m n ≡ true → linked (both_ways arrows) m n ≡ true
joins_one arrows m n h = linked_has (both_ways arrows) m n (has_both arrows m n ∙ or_left _ _ h)

pub joins_back : (arrows : List Arrow) (m n : ℕ) → has_arrow arrows n m ≡ true → linked (both_ways arrows) m n ≡ true
joins_back arrows m n h = linked_has (both_ways arrows) m n (has_both arrows m n ∙ or_right (has_arrow arrows m n) _ h)

-- if others link each arrow both ways, they link whatever the arrows link
pub linked_by : (ones others : List Arrow) → ((u v : ℕ) → has_arrow ones u v ≡ true → (linked (both_ways others) u v ≡ true) × (linked (both_ways others) v u ≡ true))
    → (a b : ℕ) → linked (both_ways ones) a b ≡ true → linked (both_ways others) a b ≡ true
linked_by ones others each a b h = go a b (chain_from_linked (both_ways ones) a b h) where
  step : (u v : ℕ) → has_arrow (both_ways ones) u v ≡ true → linked (both_ways others) u v ≡ true
  step u v arrow = elim (or_cases (has_arrow ones u v) _ (sym (has_both ones u v) ∙ arrow)) [
    | inl there ↦ (each u v there).0
    | inr back ↦ (each v u back).1
  ]

  go : (a b : ℕ) → Chain (both_ways ones) a b → linked (both_ways others) a b ≡ true
  go a b (stay n) = linked_refl (both_ways others) a
  go a c (along m b n first rest) = linked_trans (both_ways others) a b c (step a b (has_listed (both_ways ones) a b first)) (go b c rest)
