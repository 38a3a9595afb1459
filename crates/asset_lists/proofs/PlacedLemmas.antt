-- Keys and places agree, after a change of one list.
use Rattle.std.proofs.Common.{◌≡◌, ℕ, ◌<◌, List, [], ◌∷◌, ◌++◌, length, sym, ap, subst, ◌∙◌, arith, zero, suc, inl, inr}
use Rattle.std.proofs.lemmas.Bool.{cases_eq}
use Rattle.asset_lists.specs.declared.rows.Place.{Place}
use Rattle.asset_lists.specs.Parted.{IsAt}
use Rattle.asset_lists.specs.Placed.{no_place, swapped, IsPlaced, IsSwapped}
use Rattle.asset_lists.proofs.AtLemmas.{at_one, at_front, at_end, at_either, swapped_twice}

suc_one : (x y : ℕ) → suc x ≡ suc y → x ≡ y
suc_one x y e = omega (arith, e)

module _ (row : ℕ → List ℕ) (place : ℕ → Place) (placed : IsPlaced row place) where
  -- the list and the position of a key
  pub home_at : (x q k : ℕ) → IsAt (row x) q k → (place k).home ≡ suc x
  home_at x q k at = ap (λ (l : Place). l.home) (placed.listed x q k at)

  pub position_at : (x q k : ℕ) → IsAt (row x) q k → (place k).position ≡ q
  position_at x q k at = ap (λ (l : Place). l.position) (placed.listed x q k at)

  -- a key stands in one list, once
  pub one_list : (x y p q k : ℕ) → IsAt (row x) p k → IsAt (row y) q k → x ≡ y
  one_list x y p q k first second = suc_one x y (sym (home_at x p k first) ∙ home_at y q k second)

  pub one_position : (x p q k : ℕ) → IsAt (row x) p k → IsAt (row x) q k → p ≡ q
  one_position x p q k first second = sym (position_at x p k first) ∙ position_at x q k second

  module _ (more : ℕ → List ℕ) (next : ℕ → Place) (x : ℕ) (rows : (y : ℕ) → (y ≡ x → ⊥) → more y ≡ row y) where
    -- ---- two keys of a list are swapped
    module _ (p q : ℕ) (swaps : IsSwapped p q (row x) (more x)) (moved : (i k : ℕ) → IsAt (row x) i k → next k ≡ record (place k) { position = swapped p q i })
        (others : (k : ℕ) → ((i : ℕ) → IsAt (row x) i k → ⊥) → next k ≡ place k) where
      -- a key of another list, or of none, stays in its place
      pub stays : (k : ℕ) → ((place k).home ≡ suc x → ⊥) → next k ≡ place k
      stays k elsewhere = others k (λ i at. elsewhere (home_at x i k at))

      -- a key of the list has the other position
      pub stands : (k : ℕ) → (place k).home ≡ suc x → next k ≡ record { home = suc x; position = swapped p q (place k).position }
      stands k home = moved (place k).position k (placed.placed k x home) ∙ ap (λ (h : ℕ). record { home = h; position = swapped p q (place k).position }) home

      pub same_home : (k : ℕ) → (next k).home ≡ (place k).home
      same_home k = elim (cases_eq (place k).home (suc x)) [
        | inl here ↦ ap (λ (l : Place). l.home) (stands k here) ∙ sym here
        | inr apart ↦ ap (λ (l : Place). l.home) (stays k apart)
      ]

      pub placed_swap : IsPlaced more next
      placed_swap = record {
        listed = λ y i k at. elim (cases_eq y x) [
          | inl same ↦
              let was = swaps.was i k (subst (λ (z : ℕ). IsAt (more z) i k) same at) in
              stands k (home_at x (swapped p q i) k was)
              ∙ ap (λ (n : ℕ). record { home = suc x; position = swapped p q n }) (position_at x (swapped p q i) k was)
              ∙ ap (λ (n : ℕ). record { home = suc x; position = n }) (swapped_twice p q i)
              ∙ ap (λ (z : ℕ). record { home = suc z; position = i }) (sym same)
          | inr apart ↦
              let is = placed.listed y i k (subst (λ (l : List ℕ). IsAt l i k) (rows y apart) at) in
              stays k (λ home. apart (suc_one y x (sym (ap (λ (l : Place). l.home) is) ∙ home))) ∙ is
        ];
        placed = λ k y home.
            let old : (place k).home ≡ suc y = sym (same_home k) ∙ home in
            elim (cases_eq y x) [
              | inl same ↦
                  let here : (place k).home ≡ suc x = old ∙ ap (λ (z : ℕ). suc z) same in
                  subst (λ (z : ℕ). IsAt (more z) (next k).position k) (sym same)
                  (subst (λ (l : Place). IsAt (more x) l.position k) (sym (stands k here)) (swaps.moved (place k).position k (placed.placed k x here)))
              | inr apart ↦
                  subst (λ (l : List ℕ). IsAt l (next k).position k) (sym (rows y apart))
                  (subst (λ (l : Place). IsAt (row y) l.position k) (sym (stays k (λ here. apart (suc_one y x (sym old ∙ here))))) (placed.placed k y old))
            ];
      }

    module _ (key : ℕ) (others : (k : ℕ) → (k ≡ key → ⊥) → next k ≡ place k) where
      -- ---- the last key of a list goes
      module _ (last : ℕ) (there : IsAt (row x) last key) (left : (i k : ℕ) → IsAt (more x) i k → (IsAt (row x) i k) × (i < last))
          (kept : (i k : ℕ) → IsAt (row x) i k → (i ≡ last → ⊥) → IsAt (more x) i k) (gone : next key ≡ no_place) where
        pub placed_out : IsPlaced more next
        placed_out = record {
          listed = λ y i k at. elim (cases_eq y x) [
            | inl same ↦
                let was = left i k (subst (λ (z : ℕ). IsAt (more z) i k) same at) in
                let other : k ≡ key → ⊥ = λ is. absurd (omega (arith, was.1, one_position x i last key (subst (IsAt (row x) i) is was.0) there)) in
                others k other ∙ placed.listed x i k was.0 ∙ ap (λ (z : ℕ). record { home = suc z; position = i }) (sym same)
            | inr apart ↦
                let was = subst (λ (l : List ℕ). IsAt l i k) (rows y apart) at in
                others k (λ is. apart (one_list y x i last key (subst (IsAt (row y) i) is was) there)) ∙ placed.listed y i k was
          ];
          placed = λ k y home.
              let other : k ≡ key → ⊥ = λ is. zero_one y (sym (ap (λ (n : ℕ). (next n).home) is ∙ ap (λ (l : Place). l.home) gone) ∙ home) in
              let same = others k other in
              let at = placed.placed k y (sym (ap (λ (l : Place). l.home) same) ∙ home) in
              subst (λ (l : Place). IsAt (more y) l.position k) (sym same) (elim (cases_eq y x) [
                | inl here ↦
                    let old = subst (λ (z : ℕ). IsAt (row z) (place k).position k) here at in
                    subst (λ (z : ℕ). IsAt (more z) (place k).position k) (sym here)
                    (kept (place k).position k old (λ is. other (at_one (row x) last k key (subst (λ (n : ℕ). IsAt (row x) n k) is old) there)))
                | inr apart ↦ subst (λ (l : List ℕ). IsAt l (place k).position k) (sym (rows y apart)) at
              ]);
        } where
          zero_one : (y : ℕ) → zero ≡ suc y → ⊥
          zero_one y e = omega (arith, e)

      -- ---- a key comes at the end of a list
      module _ (free : (place key).home ≡ 0) (there : more x ≡ row x ++ key ∷ []) (now : next key ≡ record { home = suc x; position = length (row x) }) where
        unlisted : (y i k : ℕ) → IsAt (row y) i k → k ≡ key → ⊥
        unlisted y i k at is = absurd (omega (arith, free, home_at y i key (subst (IsAt (row y) i) is at)))

        pub placed_in : IsPlaced more next
        placed_in = record {
          listed = λ y i k at. elim (cases_eq y x) [
            | inl same ↦ elim (at_either (row x) i k key (subst (λ (l : List ℕ). IsAt l i k) there (subst (λ (z : ℕ). IsAt (more z) i k) same at))) [
              | inl was ↦ others k (unlisted x i k was) ∙ placed.listed x i k was ∙ ap (λ (z : ℕ). record { home = suc z; position = i }) (sym same)
              | inr last ↦ ap next last.1 ∙ now ∙ (λ j. record { home = suc (sym same j); position = sym last.0 j })
            ]
            | inr apart ↦
                let was = subst (λ (l : List ℕ). IsAt l i k) (rows y apart) at in
                others k (unlisted y i k was) ∙ placed.listed y i k was
          ];
          placed = λ k y home. elim (cases_eq k key) [
            | inl is ↦
                let at : next k ≡ record { home = suc x; position = length (row x) } = ap next is ∙ now in
                let here : y ≡ x = suc_one y x (sym home ∙ ap (λ (l : Place). l.home) at) in
                subst (λ (z : ℕ). IsAt (more z) (next k).position k) (sym here)
                (subst (λ (l : Place). IsAt (more x) l.position k) (sym at)
                (subst (λ (l : List ℕ). IsAt l (length (row x)) k) (sym there)
                (subst (IsAt (row x ++ key ∷ []) (length (row x))) (sym is) (at_end (row x) key))))
            | inr other ↦
                let same = others k other in
                let at = placed.placed k y (sym (ap (λ (l : Place). l.home) same) ∙ home) in
                subst (λ (l : Place). IsAt (more y) l.position k) (sym same) (elim (cases_eq y x) [
                  | inl here ↦
                      subst (λ (z : ℕ). IsAt (more z) (place k).position k) (sym here)
                      (subst (λ (l : List ℕ). IsAt l (place k).position k) (sym there) (at_front (row x) (place k).position k key (subst (λ (z : ℕ). IsAt (row z) (place k).position k) here at)))
                  | inr apart ↦ subst (λ (l : List ℕ). IsAt l (place k).position k) (sym (rows y apart)) at
                ])
          ];
        }
