-- A key of the back part that is swapped with the last key of its list, which goes then.
use Rattle.std.proofs.Common.{◌≡◌, ℕ, ◌+◌, ◌-◌, ◌<◌, ◌≤◌, List, length, take, set, get_or, None, sym, ap, subst, ◌∙◌, arith}
use Rattle.std.specs.List.{refill}
use Rattle.asset_lists.specs.declared.part.Section.TheVariants.{Back}
use Rattle.asset_lists.specs.declared.rows.Row.{Row}
use Rattle.asset_lists.specs.declared.rows.Place.{Place}
use Rattle.asset_lists.specs.Parted.{Parted, part_of, IsAt, IsChangedAt}
use Rattle.asset_lists.specs.Placed.{row_at, keys_of, place_at, no_place, seen, swapped, IsValid, IsSwapped}
use Rattle.asset_lists.proofs.RowLemmas.{some_part, row_set, row_again}
use Rattle.asset_lists.proofs.SwapLemmas.{key_in, list_in, at_key, stands_in, row_now, items_now, valid_now, changed_now, at_now}
use Rattle.asset_lists.proofs.SectionLemmas.{IsIn, Moves, in_back, kept_back}
use Rattle.asset_lists.proofs.EndLemmas.{valid_popped, changed_popped}
use Rattle.asset_lists.proofs.Laws.{changed_twice}

module _ {rows : List Row} {places : List Place} (valid : IsValid rows places) {table : Parted} (view : seen rows places ≡ table) (key : ℕ) {x : ℕ} (is : part_of table key ≡ some_part x Back)
    {place : Place} (read : place ≡ get_or places key place) {row : Row} (row_is : row ≡ get_or rows x row) {keys : List ℕ} (keys_is : keys ≡ row.keys.items) {len : ℕ} (len_is : len ≡ length row.keys.items)
    {new : List ℕ} (next : List Place) (size : length next ≡ length places) (swaps : IsSwapped place.position (len - 1) keys new)
    (moved : (i k : ℕ) → IsAt keys i k → place_at next k ≡ record (place_at places k) { position = swapped place.position (len - 1) i })
    (others : (k : ℕ) → ((i : ℕ) → IsAt keys i k → ⊥) → place_at next k ≡ place_at places k)
    (r : Row) (rest : r.keys.items ≡ take (length (refill (length row.keys.items) row.keys.items new) - 1) (refill (length row.keys.items) row.keys.items new)) (front_is : r.front ≡ row.front) (back_is : r.back ≡ row.back) where
  inside : x < length rows
  inside = list_in valid view key is

  at : IsAt keys place.position key
  at = at_key valid view key is read row_is keys_is

  long : length keys ≡ len
  long = ap (λ (l : List ℕ). length l) keys_is ∙ sym len_is

  stands : IsIn row.front row.back place.position (length keys) Back
  stands = stands_in valid view key is read row_is keys_is

  last_past : row.back ≤ len - 1
  last_past = let past = in_back row.front row.back place.position stands.here in omega (arith, at.within, long, past.1)

  stays : Moves row.front row.back place.position (length keys) row.front row.back (len - 1) Back
  stays = kept_back stands (len - 1) last_past (omega (arith, at.within, long))

  mid : Row
  mid = row_now valid view key is read row_is keys_is stays next size swaps moved others

  valid_mid : IsValid (set rows x mid) next
  unfolding mid
  valid_mid = valid_now valid view key is read row_is keys_is stays next size swaps moved others

  changed_mid : IsChangedAt key (some_part x Back) table (seen (set rows x mid) next)
  unfolding mid
  changed_mid = changed_now valid view key is read row_is keys_is stays next size swaps moved others

  mid_row : row_at (set rows x mid) x ≡ mid
  mid_row = (row_set rows x mid inside).here

  items_mid : length mid.keys.items ≡ len
  unfolding mid
  items_mid = ap (λ (l : List ℕ). length l) (items_now valid view key is read row_is keys_is stays next size swaps moved others) ∙ swaps.same ∙ long

  keys_mid : keys_of (set rows x mid) x ≡ mid.keys.items
  keys_mid = ap (λ (w : Row). w.keys.items) mid_row

  there : IsAt (keys_of (set rows x mid) x) (len - 1) key
  unfolding mid
  there = subst (λ (l : List ℕ). IsAt l (len - 1) key) (sym keys_mid) (at_now valid view key is read row_is keys_is stays next size swaps moved others)

  end : len - 1 + 1 ≡ length (keys_of (set rows x mid) x)
  end = omega (arith, at.within, long, ap (λ (l : List ℕ). length l) keys_mid, items_mid)

  front_mid : (row_at (set rows x mid) x).front ≡ row.front
  unfolding mid
  front_mid = ap (λ (w : Row). w.front) mid_row

  back_mid : (row_at (set rows x mid) x).back ≡ row.back
  unfolding mid
  back_mid = ap (λ (w : Row). w.back) mid_row

  items : r.keys.items ≡ take (len - 1) (keys_of (set rows x mid) x)
  unfolding mid
  items = rest ∙ ap (λ (n : ℕ). take (n - 1) mid.keys.items) items_mid ∙ ap (take (len - 1)) (sym keys_mid)

  pub valid_cut : IsValid (set rows x r) (set next key no_place)
  valid_cut =
      valid_popped (set rows x mid) next valid_mid key x (subst (λ (n : ℕ). x < n) (sym (row_set rows x mid inside).size) inside) (subst (λ (n : ℕ). key < n) (sym size) (key_in valid view key is))
      (len - 1) there end (omega (arith, back_mid, last_past)) r items (front_is ∙ sym front_mid) (back_is ∙ sym back_mid) (set rows x r) (row_again rows x r mid inside)

  pub changed_cut : IsChangedAt key None table (seen (set rows x r) (set next key no_place))
  changed_cut =
      changed_twice key (some_part x Back) None table (seen (set rows x mid) next) (seen (set rows x r) (set next key no_place)) changed_mid
      (changed_popped (set rows x mid) next valid_mid key x (subst (λ (n : ℕ). x < n) (sym (row_set rows x mid inside).size) inside) (subst (λ (n : ℕ). key < n) (sym size) (key_in valid view key is))
      (len - 1) there end (omega (arith, back_mid, last_past)) r items (front_is ∙ sym front_mid) (back_is ∙ sym back_mid) (set rows x r) (row_again rows x r mid inside))
