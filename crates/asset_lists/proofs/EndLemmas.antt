-- A key that comes at the end of a list, or goes from there, as it is read and written.
use Rattle.std.proofs.Common.{◌≡◌, ℕ, ◌+◌, ◌-◌, ◌<◌, ◌≤◌, ◌^◌, false, List, [], ◌∷◌, ◌++◌, length, take, set, get_or, None, sym, ap, subst, ◌∙◌, arith, suc}
use Rattle.std.specs.Prelude.{Result, Ok, Err, OnOk}
use Rattle.std.specs.Result.{is_err}
use Rattle.std.proofs.lemmas.Bool.{true≢false}
use Rattle.std.proofs.lemmas.List.{get_or_read, length-set, length-append, length-take-le, get_or-set_same, get_or-set_other}
use Rattle.asset_lists.specs.declared.part.Section.TheVariants.{Back}
use Rattle.asset_lists.specs.declared.rows.Row.{Row}
use Rattle.asset_lists.specs.declared.rows.Place.{Place}
use Rattle.asset_lists.specs.Parted.{part_of, IsAt, IsChangedAt}
use Rattle.asset_lists.specs.Placed.{no_row, no_place, row_at, keys_of, section_in, section_at, place_at, part_in, seen, IsSplit, IsValid}
use Rattle.asset_lists.proofs.AtLemmas.{at_take, take_at}
use Rattle.asset_lists.proofs.SectionLemmas.{back_in}
use Rattle.asset_lists.proofs.RowLemmas.{some_part, row_set, IsRowSet, valid_in, valid_out, changed_place, free_home}

-- ---- a key comes
module _ (rows : List Row) (places : List Place) (valid : IsValid rows places) (key x : ℕ) (list_in : x < length rows) (key_in : key < length places) (free : part_of (seen rows places) key ≡ None)
    (row : Row) (row_is : row ≡ get_or rows x row) (new : Row) (there : new.keys.items ≡ row.keys.items ++ key ∷ []) (front_is : new.front ≡ row.front) (back_is : new.back ≡ row.back)
    (position : ℕ) (position_is : position ≡ length row.keys.items) (few : position < 2 ^ 32 - 1) where
  row_read : row ≡ row_at rows x
  row_read = get_or_read rows x row list_in row_is no_row

  abbrev pub place_now : Place
  place_now = record { home = x + 1; position = position }

  place_is : place_at (set places key place_now) key ≡ record { home = suc x; position = length (keys_of rows x) }
  place_is =
      get_or-set_same places key place_now no_place key_in
      ∙ (let more : x + 1 ≡ suc x = omega arith in ap (λ (h : ℕ). record { home = h; position = position }) more)
      ∙ ap (λ (n : ℕ). record { home = suc x; position = n }) (position_is ∙ ap (λ (r : Row). length r.keys.items) row_read)

  others : (k : ℕ) → (k ≡ key → ⊥) → place_at (set places key place_now) k ≡ place_at places k
  others k apart = get_or-set_other places key k place_now no_place apart

  within : IsSplit row
  within = subst IsSplit (sym row_read) (valid.split x)

  same : (p : ℕ) → section_at new p ≡ section_at (row_at rows x) p
  same p = (λ i. section_in (front_is i) (back_is i) p) ∙ ap (λ (r : Row). section_at r p) row_read

  longer : length new.keys.items ≡ length row.keys.items + 1
  longer = ap (λ (l : List ℕ). length l) there ∙ length-append row.keys.items (key ∷ [])

  pub valid_pushed : IsValid (set rows x new) (set places key place_now)
  valid_pushed =
      valid_in rows places valid x new (set rows x new) (set places key place_now) (row_set rows x new list_in) (length-set places key place_now) key
      (free_home rows places valid key free) (there ∙ ap (λ (r : Row). r.keys.items ++ key ∷ []) row_read) place_is others
      (record { middle = omega (arith, front_is, back_is, within.middle); end = omega (arith, longer, back_is, within.end) }) (omega (arith, longer, position_is, few))

  pub changed_pushed : IsChangedAt key (some_part x Back) (seen rows places) (seen (set rows x new) (set places key place_now))
  changed_pushed =
      changed_place rows places valid x new (set rows x new) (set places key place_now) (row_set rows x new list_in) (length-set places key place_now) key (some_part x Back)
      same others
      (ap (λ (l : Place). part_in (row_at rows) l.home l.position) place_is ∙ ap (some_part x) (back_in (row_at rows x).front (row_at rows x).back (length (keys_of rows x)) (omega (arith, (valid.split x).middle, (valid.split x).end)) (valid.split x).end))

-- ---- the last key goes, which is in the back part
module _ (rows : List Row) (places : List Place) (valid : IsValid rows places) (key x : ℕ) (list_in : x < length rows) (key_in : key < length places)
    (last : ℕ) (there : IsAt (keys_of rows x) last key) (end : last + 1 ≡ length (keys_of rows x)) (back : (row_at rows x).back ≤ last)
    (r : Row) (items : r.keys.items ≡ take last (keys_of rows x)) (front_is : r.front ≡ (row_at rows x).front) (back_is : r.back ≡ (row_at rows x).back) (new : List Row) (put : IsRowSet x r rows new) where
  gone_others : (k : ℕ) → (k ≡ key → ⊥) → place_at (set places key no_place) k ≡ place_at places k
  gone_others k apart = get_or-set_other places key k no_place no_place apart

  gone : place_at (set places key no_place) key ≡ no_place
  gone = get_or-set_same places key no_place no_place key_in

  shorter : length r.keys.items ≡ last
  shorter = ap (λ (l : List ℕ). length l) items ∙ length-take-le last (keys_of rows x) (omega (arith, end))

  pub valid_popped : IsValid new (set places key no_place)
  valid_popped =
      valid_out rows places valid x r new (set places key no_place) put (length-set places key no_place) key last there
      (λ i k at. at_take last (keys_of rows x) i k (omega (arith, end)) (subst (λ (l : List ℕ). IsAt l i k) items at))
      (λ i k at apart. subst (λ (l : List ℕ). IsAt l i k) (sym items) (take_at last (keys_of rows x) i k (omega (arith, end)) at (omega (arith, at.within, end, apart))))
      gone gone_others (record { middle = omega (arith, front_is, back_is, (valid.split x).middle); end = omega (arith, shorter, back_is, back) }) (omega (arith, shorter, end, valid.short x))

  pub changed_popped : IsChangedAt key None (seen rows places) (seen new (set places key no_place))
  changed_popped =
      changed_place rows places valid x r new (set places key no_place) put (length-set places key no_place) key None (λ p i. section_in (front_is i) (back_is i) p) gone_others
      (ap (λ (l : Place). part_in (row_at rows) l.home l.position) gone)

-- what holds of a result that is Ok
pub if_ok : {T E P : Type 0} (r : Result T E) → is_err r ≡ false → OnOk r P → P
if_ok (Ok x) not_err holds = holds
if_ok (Err e) not_err holds = absurd (true≢false not_err)
