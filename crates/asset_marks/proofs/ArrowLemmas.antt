-- Laws of what is reached along arrows.
use Rattle.std.proofs.Common.{◌≡◌, ℕ, Bool, true, eqb, ◌&&◌, List, [], ◌∷◌, refl, subst, inl, inr}
use Rattle.std.proofs.lemmas.Bool.{or_cases, or_left, or_right, and_from, and_parts, eqb-true, eq-eqb}
use Rattle.asset_names.specs.Arrows.{Arrow, linked, has_arrow}
use Rattle.asset_names.proofs.PermitLemmas.{linked_has}
use Rattle.asset_names.proofs.Arrows.{linked_trans}

-- a way, and an arrow behind it
pub linked_step : (arrows : List Arrow) (a u t : ℕ) → linked arrows a u ≡ true → has_arrow arrows u t ≡ true → linked arrows a t ≡ true
linked_step arrows a u t way arrow = linked_trans arrows a u t way (linked_has arrows u t arrow)

-- what each arrow keeps is kept along the arrows
pub kept_linked : (P : ℕ → Type 0) (arrows : List Arrow) → ((u t : ℕ) → has_arrow arrows u t ≡ true → P u → P t) → (a b : ℕ) → linked arrows a b ≡ true → P a → P b
unfolding has_arrow linked
kept_linked P [] closed a b h at = subst P (eqb-true a b h) at
kept_linked P (arrow ∷ arrows) closed a b h at =
    let rest = λ (u t : ℕ) (there : has_arrow arrows u t ≡ true). closed u t (or_right (eqb arrow.0 u && eqb arrow.1 t) _ there) in
    elim (or_cases (linked arrows a b) _ h) [
      | inl p ↦ kept_linked P arrows rest a b p at
      | inr q ↦
          let parts = and_parts (linked arrows a arrow.0) (linked arrows arrow.1 b) q in
          let from = kept_linked P arrows rest a arrow.0 parts.0 at in
          kept_linked P arrows rest arrow.1 b parts.1 (closed arrow.0 arrow.1 (or_left _ _ (and_from (eqb arrow.0 arrow.0) (eqb arrow.1 arrow.1) (eq-eqb arrow.0 arrow.0 refl) (eq-eqb arrow.1 arrow.1 refl))) from)
    ]

pub closed_linked : (test : ℕ → Bool) (arrows : List Arrow) → ((u t : ℕ) → has_arrow arrows u t ≡ true → test u ≡ true → test t ≡ true) → (a b : ℕ) → linked arrows a b ≡ true → test a ≡ true → test b ≡ true
closed_linked test arrows closed a b h at = kept_linked (λ n. test n ≡ true) arrows closed a b h at
