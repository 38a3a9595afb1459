-- Laws of what a node reaches along arrows.
use Rattle.std.proofs.Common.{◌≡◌, ℕ, Bool, true, eqb, ◌&&◌, List, [], ◌∷◌, refl, sym, subst, ◌∙◌, inl, inr}
use Rattle.std.specs.List.{list_any}
use Rattle.std.proofs.lemmas.Bool.{or_cases, or_left, or_right, and_from, and_parts, eqb-true, eq-eqb, false≢true}
use Rattle.asset_names.specs.Arrows.{Arrow, linked, has_arrow, Chain}
use Rattle.asset_names.specs.Arrows.Chain.{stay, along}
use Rattle.asset_names.proofs.Arrows.{linked_refl, linked_trans, chain_from_linked}
use Rattle.asset_names.proofs.PermitLemmas.{has_listed, linked_has}
use Rattle.asset_names.proofs.Common.{both_follow}
use Rattle.asset_marks.proofs.KeyedLemmas.{turned_leads, linked_turned}
use Rattle.asset_cycles.specs.Cyclic.{reaches, turned}

-- ---- an arrow leads from a node to one that passes a test
pub leads_by : (test : ℕ → Bool) (arrows : List Arrow) (a c : ℕ) → has_arrow arrows a c ≡ true → test c ≡ true → list_any (λ (one : Arrow). eqb one.0 a && test one.1) arrows ≡ true
unfolding has_arrow
leads_by test [] a c h passes = absurd (false≢true h)
leads_by test (one ∷ arrows) a c h passes = elim (or_cases (eqb one.0 a && eqb one.1 c) _ h) [
  | inl here ↦
      let ends = and_parts (eqb one.0 a) (eqb one.1 c) here in
      or_left _ _ (and_from _ _ ends.0 (subst (λ n. test n ≡ true) (sym (eqb-true one.1 c ends.1)) passes))
  | inr later ↦ or_right (eqb one.0 a && test one.1) _ (leads_by test arrows a c later passes)
]

pub leads_parts : (test : ℕ → Bool) (arrows : List Arrow) (a : ℕ) → list_any (λ (one : Arrow). eqb one.0 a && test one.1) arrows ≡ true → (c : ℕ) × (has_arrow arrows a c ≡ true) × (test c ≡ true)
unfolding has_arrow
leads_parts test [] a h = absurd (false≢true h)
leads_parts test (one ∷ arrows) a h = elim (or_cases (eqb one.0 a && test one.1) _ h) [
  | inl here ↦
      let parts = and_parts (eqb one.0 a) (test one.1) here in
      (one.1, or_left _ _ (and_from (eqb one.0 a) (eqb one.1 one.1) parts.0 (eq-eqb one.1 one.1 refl)), parts.1)
  | inr later ↦
      let found = leads_parts test arrows a later in
      (found.0, or_right (eqb one.0 a && eqb one.1 found.0) _ found.1, found.2)
]

-- ---- a node reaches what is linked behind an arrow
pub reaches_by : (arrows : List Arrow) (a c b : ℕ) → has_arrow arrows a c ≡ true → linked arrows c b ≡ true → reaches arrows a b ≡ true
unfolding reaches
reaches_by arrows a c b arrow way = leads_by (λ n. linked arrows n b) arrows a c arrow way

pub reach_parts : (arrows : List Arrow) (a b : ℕ) → reaches arrows a b ≡ true → (c : ℕ) × (has_arrow arrows a c ≡ true) × (linked arrows c b ≡ true)
unfolding reaches
reach_parts arrows a b h = leads_parts (λ n. linked arrows n b) arrows a h

pub reach_first : (arrows : List Arrow) (a b : ℕ) → has_arrow arrows a b ≡ true → reaches arrows a b ≡ true
reach_first arrows a b arrow = reaches_by arrows a b b arrow (linked_refl arrows b)

pub reach_linked : (arrows : List Arrow) (a b : ℕ) → reaches arrows a b ≡ true → linked arrows a b ≡ true
reach_linked arrows a b h =
    let parts = reach_parts arrows a b h in
    linked_trans arrows a parts.0 b (linked_has arrows a parts.0 parts.1) parts.2

pub reach_on : (arrows : List Arrow) (a b c : ℕ) → reaches arrows a b ≡ true → linked arrows b c ≡ true → reaches arrows a c ≡ true
reach_on arrows a b c h way =
    let parts = reach_parts arrows a b h in
    reaches_by arrows a parts.0 c parts.1 (linked_trans arrows parts.0 b c parts.2 way)

pub reach_trans : (arrows : List Arrow) (a b c : ℕ) → reaches arrows a b ≡ true → reaches arrows b c ≡ true → reaches arrows a c ≡ true
reach_trans arrows a b c g h = reach_on arrows a b c g (reach_linked arrows b c h)

-- a way, and an arrow behind it
pub reach_last : (arrows : List Arrow) (a b c : ℕ) → linked arrows a b ≡ true → has_arrow arrows b c ≡ true → reaches arrows a c ≡ true
reach_last arrows a b c way arrow = go a b (chain_from_linked arrows a b way) arrow where
  go : (a b : ℕ) → Chain arrows a b → has_arrow arrows b c ≡ true → reaches arrows a c ≡ true
  go a b (stay n) arrow = reach_first arrows a c arrow
  go a b (along m n o first rest) arrow = reaches_by arrows a n c (has_listed arrows a n first) (reach_linked arrows n c (go n b rest arrow))

pub reach_behind : (arrows : List Arrow) (a b c : ℕ) → linked arrows a b ≡ true → reaches arrows b c ≡ true → reaches arrows a c ≡ true
reach_behind arrows a b c way h =
    let parts = reach_parts arrows b c h in
    reach_on arrows a parts.0 c (reach_last arrows a b parts.0 way parts.1) parts.2

-- ---- arrows that are turned round
-- what reaches a node is what the node reaches along the arrows turned round
pub reaches_turned : (arrows : List Arrow) (a b : ℕ) → reaches (turned arrows) a b ≡ reaches arrows b a
reaches_turned arrows a b = both_follow _ _
    (λ h.
    let parts = reach_parts (turned arrows) a b h in
    reach_last arrows b parts.0 a (sym (linked_turned arrows b parts.0) ∙ parts.2) (sym (turned_leads arrows a parts.0) ∙ parts.1))
    (λ h.
    let parts = reach_parts arrows b a h in
    reach_last (turned arrows) a parts.0 b (linked_turned arrows parts.0 a ∙ parts.2) (turned_leads arrows parts.0 b ∙ parts.1))
