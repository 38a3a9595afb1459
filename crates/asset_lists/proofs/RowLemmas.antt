-- Rows and places after a call, and the parts that are seen of them.
use Rattle.std.proofs.Common.{◌≡◌, ℕ, ◌<◌, ◌^◌, ltb, List, [], ◌∷◌, ◌++◌, length, get_or, set, Option, Some, None, refl, sym, ap, subst, ◌∙◌, arith, zero, suc, inl, inr}
use Rattle.std.proofs.lemmas.Bool.{cases_eq, cases_Bool, ltb-true, ltb-false}
use Rattle.std.proofs.lemmas.List.{length-set, length-map, get_or-set_same, get_or-set_other, get_or_past}
use Rattle.std.proofs.Math.ListN.{get_or-map}
use Rattle.asset_lists.specs.declared.part.Part.{Part}
use Rattle.asset_lists.specs.declared.part.Section.{Section}
use Rattle.asset_lists.specs.declared.part.Section.TheVariants.{Back}
use Rattle.asset_lists.specs.declared.rows.Row.{Row}
use Rattle.asset_lists.specs.declared.rows.Place.{Place}
use Rattle.asset_lists.specs.Parted.{part_of, IsAt, IsChangedAt}
use Rattle.asset_lists.specs.Placed.{no_row, no_place, row_at, keys_of, section_at, place_at, part_in, seen, swapped, IsPlaced, IsSplit, IsValid, IsSwapped}
use Rattle.asset_lists.proofs.AtLemmas.{swapped_first}
use Rattle.asset_lists.proofs.PlacedLemmas.{placed_swap, placed_out, placed_in, stays, stands, home_at, position_at}

-- a part, which a key is in
abbrev pub some_part : ℕ → Section → Option Part
some_part x section = Some (record { list = x; section = section })

-- ---- what is seen
-- the part of a key by its place
pub part_seen : (rows : List Row) (places : List Place) (k : ℕ) → part_of (seen rows places) k ≡ part_in (row_at rows) (place_at places k).home (place_at places k).position
unfolding part_of
part_seen rows places k = get_or-map (λ (place : Place). part_in (row_at rows) place.home place.position) places k no_place

-- a row of the list is this, and the others stay
pub record IsRowSet (x : ℕ) (r : Row) (rows new : List Row) : Type 0 where
  pub here : row_at new x ≡ r
  pub apart : (y : ℕ) → (y ≡ x → ⊥) → row_at new y ≡ row_at rows y
  pub size : length new ≡ length rows

pub row_set : (rows : List Row) (x : ℕ) (r : Row) → x < length rows → IsRowSet x r rows (set rows x r)
row_set rows x r within = record {
  here = get_or-set_same rows x r no_row within;
  apart = λ y apart. get_or-set_other rows x y r no_row apart;
  size = length-set rows x r;
}

pub row_again : (rows : List Row) (x : ℕ) (r m : Row) → x < length rows → IsRowSet x r (set rows x m) (set rows x r)
row_again rows x r m within = record {
  here = get_or-set_same rows x r no_row within;
  apart = λ y apart. get_or-set_other rows x y r no_row apart ∙ sym (get_or-set_other rows x y m no_row apart);
  size = length-set rows x r ∙ sym (length-set rows x m);
}

-- where a key stands that is in a part
pub record Stands (rows : List Row) (places : List Place) (key x : ℕ) (section : Section) : Type 0 where
  pub home : (place_at places key).home ≡ suc x
  pub side : section_at (row_at rows x) (place_at places key).position ≡ section
  pub at : IsAt (keys_of rows x) (place_at places key).position key
  pub key_in : key < length places
  pub list_in : x < length rows

pub in_rows : (rows : List Row) (x q k : ℕ) → IsAt (keys_of rows x) q k → x < length rows
in_rows rows x q k at = elim (cases_Bool (ltb x (length rows))) [
  | inl within ↦ ltb-true x (length rows) within
  | inr past ↦ absurd (omega (arith, at.within, ap (λ (r : Row). length r.keys.items) (get_or_past rows x no_row (ltb-false x (length rows) past))))
]

in_places : (places : List Place) (k x : ℕ) → (place_at places k).home ≡ suc x → k < length places
in_places places k x home = elim (cases_Bool (ltb k (length places))) [
  | inl within ↦ ltb-true k (length places) within
  | inr past ↦ absurd (omega (arith, home, ap (λ (l : Place). l.home) (get_or_past places k no_place (ltb-false k (length places) past))))
]

module _ (rows : List Row) (places : List Place) (valid : IsValid rows places) where
  pub at_within : (x q k : ℕ) → IsAt (keys_of rows x) q k → k < length places
  at_within x q k at = in_places places k x (home_at (keys_of rows) (place_at places) valid.placed x q k at)

  pub at_position : (x q k : ℕ) → IsAt (keys_of rows x) q k → (place_at places k).position ≡ q
  at_position x q k at = position_at (keys_of rows) (place_at places) valid.placed x q k at

  pub stands_at : (key x : ℕ) (section : Section) → part_of (seen rows places) key ≡ Some (record { list = x; section = section }) → Stands rows places key x section
  stands_at key x section is = by (place_at places key).home refl (sym (part_seen rows places key) ∙ is) where
    by : (h : ℕ) → (place_at places key).home ≡ h → part_in (row_at rows) (place_at places key).home (place_at places key).position ≡ Some (record { list = x; section = section }) → Stands rows places key x section
    by zero home seen_is = none (sym (ap (λ (h : ℕ). part_in (row_at rows) h (place_at places key).position) home) ∙ seen_is) where
      none : None ≡ some_part x section → Stands rows places key x section
      none e = cc
    by (suc y) home seen_is = some (sym (ap (λ (h : ℕ). part_in (row_at rows) h (place_at places key).position) home) ∙ seen_is) where
      some : some_part y (section_at (row_at rows y) (place_at places key).position) ≡ some_part x section → Stands rows places key x section
      some e =
          let list : y ≡ x = ap (λ (o : Option Part). list_or o) e in
          let at = valid.placed.placed key y home in
          record {
            home = home ∙ ap (λ (z : ℕ). suc z) list;
            side = ap (λ (z : ℕ). section_at (row_at rows z) (place_at places key).position) (sym list) ∙ ap (λ (o : Option Part). section_or o) e;
            at = subst (λ (z : ℕ). IsAt (keys_of rows z) (place_at places key).position key) list at;
            key_in = in_places places key y home;
            list_in = subst (λ (z : ℕ). z < length rows) list (in_rows rows y (place_at places key).position key at);
          } where
            list_or : Option Part → ℕ
            list_or None = 0
            list_or (Some part) = part.list

            section_or : Option Part → Section
            section_or None = Back
            section_or (Some part) = part.section

  -- a key in no part has no home
  pub free_home : (key : ℕ) → part_of (seen rows places) key ≡ None → (place_at places key).home ≡ 0
  free_home key is = by (place_at places key).home refl (sym (part_seen rows places key) ∙ is) where
    by : (h : ℕ) → (place_at places key).home ≡ h → part_in (row_at rows) (place_at places key).home (place_at places key).position ≡ None → (place_at places key).home ≡ 0
    by zero home seen_is = home
    by (suc y) home seen_is = some (sym (ap (λ (h : ℕ). part_in (row_at rows) h (place_at places key).position) home) ∙ seen_is) where
      some : some_part y (section_at (row_at rows y) (place_at places key).position) ≡ None → (place_at places key).home ≡ 0
      some e = cc

-- ---- what changes is seen
-- the parts of all keys but one stay
changed : (rows new : List Row) (places next : List Place) (key : ℕ) (part : Option Part) → length new ≡ length rows → length next ≡ length places
    → part_in (row_at new) (place_at next key).home (place_at next key).position ≡ part
    → ((k : ℕ) → (k ≡ key → ⊥) → part_in (row_at new) (place_at next k).home (place_at next k).position ≡ part_in (row_at rows) (place_at places k).home (place_at places k).position)
    → IsChangedAt key part (seen rows places) (seen new next)
changed rows new places next key part size keys here others = record {
  here = part_seen new next key ∙ here;
  others = λ k apart. part_seen new next k ∙ others k apart ∙ sym (part_seen rows places k);
  same_lists = size;
  same_keys = length-map next (λ (place : Place). part_in (row_at new) place.home place.position) ∙ keys ∙ sym (length-map places (λ (place : Place). part_in (row_at rows) place.home place.position));
}

-- a place in another list is in the same part
other_part : (row more : ℕ → Row) (x h position : ℕ) → ((y : ℕ) → (y ≡ x → ⊥) → more y ≡ row y) → (h ≡ suc x → ⊥) → part_in more h position ≡ part_in row h position
other_part row more x zero position same apart = refl
other_part row more x (suc y) position same apart = ap (λ (w : Row). some_part y (section_at w position)) (same y (λ e. apart (ap (λ (z : ℕ). suc z) e)))

module _ (rows : List Row) (places : List Place) (valid : IsValid rows places) (x : ℕ) (r : Row) (new : List Row) (next : List Place) (put : IsRowSet x r rows new) (size : length next ≡ length places) where
  keys_apart : (y : ℕ) → (y ≡ x → ⊥) → keys_of new y ≡ keys_of rows y
  keys_apart y apart = ap (λ (w : Row). w.keys.items) (put.apart y apart)

  keys_here : keys_of new x ≡ r.keys.items
  keys_here = ap (λ (w : Row). w.keys.items) put.here

  valid_with : IsPlaced (keys_of new) (place_at next) → IsSplit r → length r.keys.items < 2 ^ 32 → IsValid new next
  valid_with placed split short = record {
    placed = placed;
    split = λ y. elim (cases_eq y x) [
      | inl same ↦ subst (λ (z : ℕ). IsSplit (row_at new z)) (sym same) (subst IsSplit (sym put.here) split)
      | inr apart ↦ subst IsSplit (sym (put.apart y apart)) (valid.split y)
    ];
    short = λ y. elim (cases_eq y x) [
      | inl same ↦ subst (λ (z : ℕ). length (keys_of new z) < 2 ^ 32) (sym same) (subst (λ (w : Row). length w.keys.items < 2 ^ 32) (sym put.here) short)
      | inr apart ↦ subst (λ (w : Row). length w.keys.items < 2 ^ 32) (sym (put.apart y apart)) (valid.short y)
    ];
    few_keys = subst (λ (n : ℕ). n < 2 ^ 32) (sym size) valid.few_keys;
    few_lists = subst (λ (n : ℕ). n < 2 ^ 32) (sym put.size) valid.few_lists;
  }

  -- ---- two keys of the list are swapped
  module _ (p q : ℕ) (swaps : IsSwapped p q (keys_of rows x) r.keys.items)
      (moved : (i k : ℕ) → IsAt (keys_of rows x) i k → place_at next k ≡ record (place_at places k) { position = swapped p q i })
      (others : (k : ℕ) → ((i : ℕ) → IsAt (keys_of rows x) i k → ⊥) → place_at next k ≡ place_at places k) where
    swaps_here : IsSwapped p q (keys_of rows x) (keys_of new x)
    swaps_here = subst (IsSwapped p q (keys_of rows x)) (sym keys_here) swaps

    pub valid_swapped : IsSplit r → IsValid new next
    valid_swapped split =
        valid_with (placed_swap (keys_of rows) (place_at places) valid.placed (keys_of new) (place_at next) x keys_apart p q swaps_here moved others)
        split (subst (λ (n : ℕ). n < 2 ^ 32) (sym swaps.same) (valid.short x))

    -- each key but the one at p stays in its part
    pub parts_swapped : (key : ℕ) → IsAt (keys_of rows x) p key → ((i : ℕ) → i < length (keys_of rows x) → (i ≡ p → ⊥) → section_at r (swapped p q i) ≡ section_at (row_at rows x) i)
        → (k : ℕ) → (k ≡ key → ⊥) → part_in (row_at new) (place_at next k).home (place_at next k).position ≡ part_in (row_at rows) (place_at places k).home (place_at places k).position
    parts_swapped key there border k apart = elim (cases_eq (place_at places k).home (suc x)) [
      | inl home ↦
          let at = valid.placed.placed k x home in
          let other : (place_at places k).position ≡ p → ⊥ = λ is. apart (sym at.reads ∙ ap (λ (n : ℕ). get_or (keys_of rows x) n 0) is ∙ there.reads) in
          ap (λ (l : Place). part_in (row_at new) l.home l.position) (stands (keys_of rows) (place_at places) valid.placed (keys_of new) (place_at next) x keys_apart p q swaps_here moved others k home)
          ∙ ap (λ (w : Row). some_part x (section_at w (swapped p q (place_at places k).position))) put.here
          ∙ ap (λ (b : Section). some_part x b) (border (place_at places k).position at.within other)
          ∙ sym (ap (λ (h : ℕ). part_in (row_at rows) h (place_at places k).position) home)
      | inr elsewhere ↦
          ap (λ (l : Place). part_in (row_at new) l.home l.position) (stays (keys_of rows) (place_at places) valid.placed (keys_of new) (place_at next) x keys_apart p q swaps_here moved others k elsewhere)
          ∙ other_part (row_at rows) (row_at new) x (place_at places k).home (place_at places k).position put.apart elsewhere
    ]

    pub changed_swapped : (key : ℕ) (section : Section) → IsAt (keys_of rows x) p key → ((i : ℕ) → i < length (keys_of rows x) → (i ≡ p → ⊥) → section_at r (swapped p q i) ≡ section_at (row_at rows x) i) → section_at r q ≡ section
        → IsChangedAt key (some_part x section) (seen rows places) (seen new next)
    changed_swapped key section there border is =
        changed rows new places next key (some_part x section) put.size size
        (ap (λ (l : Place). part_in (row_at new) l.home l.position) (moved p key there)
        ∙ ap (λ (h : ℕ). part_in (row_at new) h (swapped p q p)) (home_at (keys_of rows) (place_at places) valid.placed x p key there)
        ∙ (λ i. some_part x (section_at (put.here i) (swapped_first p q i)))
        ∙ ap (λ (b : Section). some_part x b) is)
        (parts_swapped key there border)

  -- ---- the last key of the list goes
  module _ (key last : ℕ) (there : IsAt (keys_of rows x) last key) (left : (i k : ℕ) → IsAt r.keys.items i k → (IsAt (keys_of rows x) i k) × (i < last))
      (kept : (i k : ℕ) → IsAt (keys_of rows x) i k → (i ≡ last → ⊥) → IsAt r.keys.items i k) (gone : place_at next key ≡ no_place) (others : (k : ℕ) → (k ≡ key → ⊥) → place_at next k ≡ place_at places k) where
    pub valid_out : IsSplit r → length r.keys.items < 2 ^ 32 → IsValid new next
    valid_out split short =
        valid_with (placed_out (keys_of rows) (place_at places) valid.placed (keys_of new) (place_at next) x keys_apart key others last there
        (λ i k at. left i k (subst (λ (l : List ℕ). IsAt l i k) keys_here at)) (λ i k at apart. subst (λ (l : List ℕ). IsAt l i k) (sym keys_here) (kept i k at apart)) gone) split short

  -- ---- a key comes at the end of the list
  module _ (key : ℕ) (free : (place_at places key).home ≡ 0) (there : r.keys.items ≡ keys_of rows x ++ key ∷ []) (now : place_at next key ≡ record { home = suc x; position = length (keys_of rows x) })
      (others : (k : ℕ) → (k ≡ key → ⊥) → place_at next k ≡ place_at places k) where
    pub valid_in : IsSplit r → length r.keys.items < 2 ^ 32 → IsValid new next
    valid_in split short = valid_with (placed_in (keys_of rows) (place_at places) valid.placed (keys_of new) (place_at next) x keys_apart key others free (keys_here ∙ there) now) split short

  -- ---- no part changes
  pub same_sections : ((position : ℕ) → section_at r position ≡ section_at (row_at rows x) position) → (h position : ℕ) → part_in (row_at new) h position ≡ part_in (row_at rows) h position
  same_sections same zero position = refl
  same_sections same (suc y) position = elim (cases_eq y x) [
    | inl is ↦ ap (λ (z : ℕ). some_part y (section_at (row_at new z) position)) is ∙ ap (λ (w : Row). some_part y (section_at w position)) put.here ∙ ap (some_part y) (same position) ∙ ap (λ (z : ℕ). some_part y (section_at (row_at rows z) position)) (sym is)
    | inr apart ↦ ap (λ (w : Row). some_part y (section_at w position)) (put.apart y apart)
  ]

  pub changed_place : (key : ℕ) (part : Option Part) → ((position : ℕ) → section_at r position ≡ section_at (row_at rows x) position) → (others : (k : ℕ) → (k ≡ key → ⊥) → place_at next k ≡ place_at places k)
      → part_in (row_at rows) (place_at next key).home (place_at next key).position ≡ part → IsChangedAt key part (seen rows places) (seen new next)
  changed_place key part same others here =
      changed rows new places next key part put.size size (same_sections same (place_at next key).home (place_at next key).position ∙ here)
      (λ k apart. same_sections same (place_at next k).home (place_at next k).position ∙ ap (λ (l : Place). part_in (row_at rows) l.home l.position) (others k apart))
