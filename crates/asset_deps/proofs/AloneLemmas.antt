-- One from whom and to whom no dependency leads is a class of its own, and depends on no source.
use Rattle.std.proofs.Common.{◌≡◌, ℕ, Bool, true, false, eqb, ◌||◌, List, [], ◌∷◌, Option, None, Some, is_some, refl, sym, ap, subst, ◌∙◌, inl, inr}
use Rattle.std.specs.List.{list_any}
use Rattle.std.proofs.lemmas.Bool.{or_cases, or_left, or_right, eqb-true, eq-eqb, true≢false}
use Rattle.slab.specs.Slab.{get}
use Rattle.asset_names.specs.declared.names.Txn.{Txn}
use Rattle.asset_names.specs.Arrows.{linked, has_arrow}
use Rattle.asset_names.proofs.Arrows.{linked_refl}
use Rattle.asset_names.proofs.Common.{some_of, both_follow}
use Rattle.asset_chains.specs.Chained.{chain_of, first_of, IsConsistent}
use Rattle.asset_chains.proofs.KeyLemmas.{first_listed, first_is_some}
use Rattle.asset_seats.specs.Seated.{seat}
use Rattle.asset_marks.specs.Marked.{Met}
use Rattle.asset_marks.proofs.ArrowLemmas.{closed_linked}
use Rattle.asset_marks.proofs.SlotLemmas.{any_has, key_of_any}
use Rattle.asset_deps.specs.declared.kinds.Kinds.{Kinds}
use Rattle.asset_deps.specs.declared.kinds.Kinds.TheVariants.{Class, Dooming, Order}
use Rattle.asset_deps.specs.Dependencies.{Dependency, class_in, doomed_in, outside_source_in, is_linked_in}
use Rattle.asset_deps.specs.Reached.{of_kinds, depends_by, ways_in}
use Rattle.asset_deps.specs.Valid.{Parts, dependencies_of, IsValid}
use Rattle.asset_deps.proofs.KindLemmas.{joins, way_in, class_linked, doom_linked}
use Rattle.asset_deps.proofs.NamedLemmas.{joins_parts, has_across}
use Rattle.asset_deps.proofs.OutsideLemmas.{no_outside_alone}

abbrev number : Option Txn → ℕ
number None = 0
number (Some t) = t.0

abbrev named : ℕ → Option Txn
named n = Some (record { 0 = n })

-- one name is one number
name : (a b : ℕ) → named a ≡ named b → a ≡ b
name a b e = ap number e

-- a dependency that joins two names links both
joined_links : (test : Dependency → Bool) (ds : List Dependency) (u v : ℕ) → list_any (joins test u v) ds ≡ true → (is_linked_in ds u ≡ true) × (is_linked_in ds v ≡ true)
unfolding is_linked_in
joined_links test [] u v h = cc
joined_links test (d ∷ ds) u v h = elim (or_cases (joins test u v d) _ h) [
  | inl here ↦
      let parts = joins_parts test u v d here in
      (or_left (eqb d.source u || eqb d.dependent u) _ (or_left _ _ (eq-eqb d.source u parts.1)), or_left (eqb d.source v || eqb d.dependent v) _ (or_right (eqb d.source v) _ (eq-eqb d.dependent v parts.2)))
  | inr later ↦ let found = joined_links test ds u v later in (or_right (eqb d.source u || eqb d.dependent u) _ found.0, or_right (eqb d.source v || eqb d.dependent v) _ found.1)
]

-- so one that is not linked is joined with nobody
unjoined : (kinds : Kinds) (ds : List Dependency) (t u v : ℕ) → is_linked_in ds t ≡ false → depends_by kinds ds u v ≡ true → (u ≡ t → ⊥) × (v ≡ t → ⊥)
unfolding depends_by
unjoined kinds ds t u v none on =
    let both = joined_links (of_kinds kinds) ds u v on in
    (λ is. true≢false (sym both.0 ∙ ap (is_linked_in ds) is ∙ none), λ is. true≢false (sym both.1 ∙ ap (is_linked_in ds) is ∙ none))

leads_to_itself : (kinds : Kinds) (ds : List Dependency) (t n : ℕ) → is_linked_in ds t ≡ false → linked (ways_in kinds ds) t n ≡ eqb t n
leads_to_itself kinds ds t n none = both_follow _ _ to (λ same. subst (λ k. linked (ways_in kinds ds) t k ≡ true) (eqb-true t n same) (linked_refl (ways_in kinds ds) t)) where
  closed : (u v : ℕ) → has_arrow (ways_in kinds ds) u v ≡ true → eqb t u ≡ true → eqb t v ≡ true
  closed u v arrow is = elim (or_cases _ _ (sym (way_in kinds ds u v) ∙ arrow)) [
    | inl on ↦ absurd ((unjoined kinds ds t u v none on).0 (sym (eqb-true t u is)))
    | inr back ↦ absurd ((unjoined Class ds t v u none back).1 (sym (eqb-true t u is)))
  ]

  to : linked (ways_in kinds ds) t n ≡ true → eqb t n ≡ true
  to way = closed_linked (eqb t) (ways_in kinds ds) closed t n way (eq-eqb t t refl)

pub class_alone : (ds : List Dependency) (t n : ℕ) → is_linked_in ds t ≡ false → class_in ds t n ≡ eqb t n
class_alone ds t n none = sym (class_linked ds t n) ∙ leads_to_itself Class ds t n none

pub doom_alone : (ds : List Dependency) (t n : ℕ) → is_linked_in ds t ≡ false → doomed_in ds t n ≡ eqb t n
doom_alone ds t n none = sym (doom_linked ds t n) ∙ leads_to_itself Dooming ds t n none

module _ (p : Parts) (size : ℕ) (marked : Met) (valid : IsValid p size marked) (t : Txn) where
  pub no_source_alone : is_linked_in (dependencies_of p.links) t.0 ≡ false → outside_source_in (dependencies_of p.links) t.0 ≡ false
  unfolding class_in
  no_source_alone none = no_outside_alone p size marked valid t (λ n. class_alone (dependencies_of p.links) t.0 n none) (λ u v on is. (unjoined Order (dependencies_of p.links) t.0 u v none on).1 is)

  -- one that has a seat is linked exactly if its row or its column has an item
  module _ (s : ℕ) (sat : seat p.seats s ≡ Some t) (one : (d : ℕ) → seat p.seats d ≡ Some t → d ≡ s) (rows : IsConsistent p.along) (columns : IsConsistent p.across) where
    abbrev touches : Dependency → Bool
    touches d = eqb d.source t.0 || eqb d.dependent t.0

    pub linked_by_seat : (is_some (first_of (chain_of p.along s)) || is_some (first_of (chain_of p.across s))) ≡ is_linked_in (dependencies_of p.links) t.0
    unfolding is_linked_in dependencies_of
    linked_by_seat = both_follow _ _ to back where
      to : (is_some (first_of (chain_of p.along s)) || is_some (first_of (chain_of p.across s))) ≡ true → list_any touches (dependencies_of p.links) ≡ true
      to some = elim (or_cases _ _ some) [
        | inl row ↦
            let key = some_of (first_of (chain_of p.along s)) row in
            let home = rows.at_home s key.0 (first_listed key.0 (chain_of p.along s) key.1) in
            let item = some_of (get p.links key.0) (valid.placed.along key.0 ∙ ap is_some home) in
            any_has touches p.links key.0 item.0 item.1 (or_left _ _ (eq-eqb item.0.source t.0 (name item.0.source t.0 (sym (valid.sources key.0 s item.0 item.1 home) ∙ sat))))
        | inr column ↦
            let key = some_of (first_of (chain_of p.across s)) column in
            let home = columns.at_home s key.0 (first_listed key.0 (chain_of p.across s) key.1) in
            let item = some_of (get p.links key.0) (valid.placed.across key.0 ∙ ap is_some home) in
            any_has touches p.links key.0 item.0 item.1 (or_right (eqb item.0.source t.0) _ (eq-eqb item.0.dependent t.0 (name item.0.dependent t.0 (sym (valid.dependents key.0 s item.0 item.1 home) ∙ sat))))
      ]

      back : list_any touches (dependencies_of p.links) ≡ true → (is_some (first_of (chain_of p.along s)) || is_some (first_of (chain_of p.across s))) ≡ true
      back h =
          let found = key_of_any touches p.links h in
          let ends = has_across p size marked valid found.0 found.1 found.2 in
          elim (or_cases _ _ found.3) [
            | inl source ↦
                let here : ends.from ≡ s = one ends.from (ends.source ∙ (λ i. Some (record { 0 = eqb-true found.1.source t.0 source i }))) in
                or_left _ _ (first_is_some (chain_of p.along s) found.0 (rows.listed s found.0 (ends.home ∙ ap Some here)))
            | inr dependent ↦
                let here : ends.to ≡ s = one ends.to (ends.dependent ∙ (λ i. Some (record { 0 = eqb-true found.1.dependent t.0 dependent i }))) in
                or_right (is_some (first_of (chain_of p.along s))) _ (first_is_some (chain_of p.across s) found.0 (columns.listed s found.0 (ends.end ∙ ap Some here)))
          ]
