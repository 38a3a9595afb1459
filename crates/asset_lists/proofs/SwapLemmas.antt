-- A list of which two keys are swapped, as it is read and written.
use Rattle.std.proofs.Common.{◌≡◌, ℕ, ◌<◌, ◌≤◌, ◌^◌, List, length, set, get_or, sym, ap, subst, ◌∙◌}
use Rattle.std.specs.List.{refill}
use Rattle.std.proofs.lemmas.List.{get_or_read}
use Rattle.asset_lists.specs.declared.part.Section.{Section}
use Rattle.asset_lists.specs.declared.rows.Row.{Row}
use Rattle.asset_lists.specs.declared.rows.Place.{Place}
use Rattle.asset_lists.specs.Parted.{Parted, part_of, IsAt, IsChangedAt}
use Rattle.asset_lists.specs.Placed.{no_row, no_place, row_at, keys_of, section_at, place_at, seen, swapped, IsSplit, IsValid, IsSwapped}
use Rattle.asset_lists.proofs.AtLemmas.{swapped_first, refilled}
use Rattle.asset_lists.proofs.SectionLemmas.{IsIn, Moves}
use Rattle.asset_lists.proofs.RowLemmas.{some_part, Stands, stands_at, at_within, at_position, row_set, valid_swapped, changed_swapped}

-- the key is in the list, as it is seen
module _ {rows : List Row} {places : List Place} (valid : IsValid rows places) {table : Parted} (view : seen rows places ≡ table) (key : ℕ) {x : ℕ} {section : Section} (is : part_of table key ≡ some_part x section) where
  stood : Stands rows places key x section
  stood = stands_at rows places valid key x section (ap (λ (t : Parted). part_of t key) view ∙ is)

  pub key_in : key < length places
  key_in = stood.key_in

  pub list_in : x < length rows
  list_in = stood.list_in

  -- ---- what is read of the key and of the list
  module _ {place : Place} (read : place ≡ get_or places key place) {row : Row} (row_is : row ≡ get_or rows x row) where
    place_read : place ≡ place_at places key
    place_read = get_or_read places key place stood.key_in read no_place

    row_read : row ≡ row_at rows x
    row_read = get_or_read rows x row list_in row_is no_row

    pub side : section_at row place.position ≡ section
    side = (λ i. section_at (row_read i) (place_read i).position) ∙ stood.side

    module _ {keys : List ℕ} (keys_is : keys ≡ row.keys.items) where
      keys_read : keys ≡ keys_of rows x
      keys_read = keys_is ∙ ap (λ (r : Row). r.keys.items) row_read

      pub at_key : IsAt keys place.position key
      at_key = subst (λ (l : List ℕ). IsAt l place.position key) (sym keys_read) (subst (λ (p : Place). IsAt (keys_of rows x) p.position key) (sym place_read) stood.at)

      -- where the key is by the borders
      pub stands_in : IsIn row.front row.back place.position (length keys) section
      stands_in =
          let fits = subst IsSplit (sym row_read) (valid.split x) in
          record { fits = fits.middle; end = subst (λ (l : List ℕ). row.back ≤ length l) (sym keys_is) fits.end; within = at_key.within; here = side }

      pub few : length keys < 2 ^ 32
      few = subst (λ (l : List ℕ). length l < 2 ^ 32) (sym keys_read) (valid.short x)

      pub within : (i k : ℕ) → IsAt keys i k → k < length places
      within i k at = at_within rows places valid x i k (subst (λ (l : List ℕ). IsAt l i k) keys_read at)

      pub positions : (i k : ℕ) → IsAt keys i k → (place_at places k).position ≡ i
      positions i k at = at_position rows places valid x i k (subst (λ (l : List ℕ). IsAt l i k) keys_read at)

      -- ---- the list and the places after a swap
      module _ {front_now back_now q : ℕ} {section_now : Section} (move : Moves row.front row.back place.position (length keys) front_now back_now q section_now) {new : List ℕ} (next : List Place) (size : length next ≡ length places) (swaps : IsSwapped place.position q keys new)
          (moved : (i k : ℕ) → IsAt keys i k → place_at next k ≡ record (place_at places k) { position = swapped place.position q i })
          (others : (k : ℕ) → ((i : ℕ) → IsAt keys i k → ⊥) → place_at next k ≡ place_at places k) where
        abbrev pub row_now : Row
        row_now = record { keys = record { items = refill (length row.keys.items) row.keys.items new; capacity = row.keys.capacity }; front = front_now; back = back_now }

        pub items_now : row_now.keys.items ≡ new
        items_now = refilled row.keys.items new (swaps.same ∙ ap (λ (l : List ℕ). length l) keys_is)

        swaps_now : IsSwapped place.position q (keys_of rows x) row_now.keys.items
        swaps_now = subst (IsSwapped place.position q (keys_of rows x)) (sym items_now) (subst (λ (l : List ℕ). IsSwapped place.position q l new) keys_read swaps)

        moved_now : (i k : ℕ) → IsAt (keys_of rows x) i k → place_at next k ≡ record (place_at places k) { position = swapped place.position q i }
        moved_now i k at = moved i k (subst (λ (l : List ℕ). IsAt l i k) (sym keys_read) at)

        others_now : (k : ℕ) → ((i : ℕ) → IsAt (keys_of rows x) i k → ⊥) → place_at next k ≡ place_at places k
        others_now k apart = others k (λ i at. apart i (subst (λ (l : List ℕ). IsAt l i k) keys_read at))

        pub valid_now : IsValid (set rows x row_now) next
        valid_now =
            valid_swapped rows places valid x row_now (set rows x row_now) next (row_set rows x row_now list_in) size place.position q swaps_now moved_now others_now
            (record { middle = move.fits; end = subst (λ (n : ℕ). back_now ≤ n) (sym (ap (λ (l : List ℕ). length l) items_now ∙ swaps.same)) move.end })

        pub changed_now : IsChangedAt key (some_part x section_now) table (seen (set rows x row_now) next)
        changed_now =
            subst (λ (t : Parted). IsChangedAt key (some_part x section_now) t (seen (set rows x row_now) next)) view
            (changed_swapped rows places valid x row_now (set rows x row_now) next (row_set rows x row_now list_in) size place.position q swaps_now moved_now others_now key section_now
            (subst (λ (l : List ℕ). IsAt l place.position key) keys_read at_key)
            (λ i inside apart. move.others i apart ∙ ap (λ (r : Row). section_at r i) row_read) move.here)

        -- the key stands at the other position
        pub at_now : IsAt row_now.keys.items q key
        at_now = subst (λ (l : List ℕ). IsAt l q key) (sym items_now) (subst (λ (n : ℕ). IsAt new n key) (swapped_first place.position q) (swaps.moved place.position key at_key))
