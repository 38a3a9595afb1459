-- The keys of a part, and the part of a key, as they are read.
use Rattle.std.proofs.Common.{◌≡◌, ℕ, ◌+◌, ◌-◌, ◌<◌, ◌≤◌, List, [], length, take, drop, Some, None, true, sym, ap, subst, ◌∙◌, arith, suc}
use Rattle.std.proofs.lemmas.List.{take_all, length-drop}
use Rattle.asset_lists.specs.declared.part.Part.{Part}
use Rattle.asset_lists.specs.declared.part.Section.{Section}
use Rattle.asset_lists.specs.declared.part.Section.TheVariants.{Front, Middle, Back}
use Rattle.asset_lists.specs.declared.rows.Row.{Row}
use Rattle.asset_lists.specs.declared.rows.Place.{Place}
use Rattle.asset_lists.specs.Parted.{part_of, is_up_to, IsAt, AreKeys, AreKeysUpTo}
use Rattle.asset_lists.specs.Placed.{row_at, keys_of, section_at, place_at, part_in, seen, IsSplit, IsValid}
use Rattle.asset_lists.proofs.AtLemmas.{at_take, take_at, at_drop, drop_at}
use Rattle.asset_lists.proofs.PlacedLemmas.{one_position}
use Rattle.asset_lists.proofs.SectionLemmas.{front_in, middle_in, back_in, in_front, in_middle, in_back, up_to_front, front_up_to, up_to_middle, middle_up_to, up_to_back}
use Rattle.asset_lists.proofs.RowLemmas.{some_part, part_seen, Stands, stands_at}

pub decoded : (h : ℕ) → (h ≡ 0 → ⊥) → h ≡ suc (h - 1)
decoded h some = omega (arith, some)

module _ (rows : List Row) (places : List Place) (valid : IsValid rows places) where
  -- the part of a key by its position
  pub part_here : (x q k : ℕ) → IsAt (keys_of rows x) q k → part_of (seen rows places) k ≡ some_part x (section_at (row_at rows x) q)
  part_here x q k at = part_seen rows places k ∙ ap (λ (l : Place). part_in (row_at rows) l.home l.position) (valid.placed.listed x q k at)

  -- and by its stored place
  pub part_read : (k : ℕ) (place : Place) → place ≡ place_at places k → (place.home ≡ 0 → ⊥) → part_of (seen rows places) k ≡ some_part (place.home - 1) (section_at (row_at rows (place.home - 1)) place.position)
  part_read k place read some =
      part_seen rows places k
      ∙ ap (λ (l : Place). part_in (row_at rows) l.home l.position) (sym read)
      ∙ ap (λ (h : ℕ). part_in (row_at rows) h place.position) (decoded place.home some)

  pub part_free : (k : ℕ) → (place_at places k).home ≡ 0 → part_of (seen rows places) k ≡ None
  part_free k none = part_seen rows places k ∙ ap (λ (h : ℕ). part_in (row_at rows) h (place_at places k).position) none

  module _ (part : Part) (row : Row) (row_is : row ≡ row_at rows part.list) (keys : List ℕ) (is : keys ≡ row.keys.items) where
    stood : (k : ℕ) (section : Section) → part.section ≡ section → part_of (seen rows places) k ≡ Some part → Stands rows places k part.list section
    stood k section side here = stands_at rows places valid k part.list section (here ∙ ap (some_part part.list) side)

    at_row : (q k : ℕ) → IsAt keys q k → IsAt (keys_of rows part.list) q k
    at_row q k at = subst (λ (w : Row). IsAt w.keys.items q k) row_is (subst (λ (l : List ℕ). IsAt l q k) is at)

    row_at_key : (q k : ℕ) → IsAt (keys_of rows part.list) q k → IsAt keys q k
    row_at_key q k at = subst (λ (l : List ℕ). IsAt l q k) (sym is) (subst (λ (w : Row). IsAt w.keys.items q k) (sym row_is) at)

    pub split : (row.front ≤ row.back) × (row.back ≤ length keys)
    split =
        let fits = subst IsSplit (sym row_is) (valid.split part.list) in
        (fits.middle, subst (λ (l : List ℕ). row.back ≤ length l) (sym is) fits.end)

    -- the part of the key at a position, and the position of a key of the part
    here_at : (q k : ℕ) → IsAt keys q k → section_at row q ≡ part.section → part_of (seen rows places) k ≡ Some part
    here_at q k at side = part_here part.list q k (at_row q k at) ∙ ap (λ (w : Row). some_part part.list (section_at w q)) (sym row_is) ∙ ap (some_part part.list) side

    position : (k : ℕ) (section : Section) → part.section ≡ section → part_of (seen rows places) k ≡ Some part → (q : ℕ) × IsAt keys q k × (section_at row q ≡ section)
    position k section side here =
        let st = stood k section side here in
        ((place_at places k).position, row_at_key (place_at places k).position k st.at, ap (λ (w : Row). section_at w (place_at places k).position) row_is ∙ st.side)

    alone : (p q k : ℕ) → IsAt keys p k → IsAt keys q k → p ≡ q
    alone p q k first second = one_position (keys_of rows) (place_at places) valid.placed part.list p q k (at_row p k first) (at_row q k second)

    pub keys_front : part.section ≡ Front → AreKeys (seen rows places) part (take row.front keys)
    keys_front side = record {
      there = λ q k at. let old = at_take row.front keys q k fits at in here_at q k old.0 (front_in row.front row.back q old.1 ∙ sym side);
      all = λ k here. let st = position k Front side here in (st.0, take_at row.front keys st.0 k fits st.1 (in_front row.front row.back st.0 st.2));
      once = λ p q k first second. alone p q k (at_take row.front keys p k fits first).0 (at_take row.front keys q k fits second).0;
    } where
      fits : row.front ≤ length keys
      fits = omega (arith, split.0, split.1)

    pub keys_middle : part.section ≡ Middle → AreKeys (seen rows places) part (take (row.back - row.front) (drop row.front keys))
    keys_middle side = record {
      there = λ q k at.
          let old = at_take (row.back - row.front) (drop row.front keys) q k fits at in
          here_at (row.front + q) k (at_drop row.front keys q k old.0) (middle_in row.front row.back (row.front + q) (omega arith) (omega (arith, old.1)) ∙ sym side);
      all = λ k here.
          let st = position k Middle side here in
          let inside = in_middle row.front row.back st.0 st.2 in
          (st.0 - row.front, take_at (row.back - row.front) (drop row.front keys) (st.0 - row.front) k fits (drop_at row.front keys (st.0 - row.front) st.0 k st.1 (omega (arith, inside.0))) (omega (arith, inside.0, inside.1)));
      once = λ p q k first second.
          let same = alone (row.front + p) (row.front + q) k
          (at_drop row.front keys p k (at_take (row.back - row.front) (drop row.front keys) p k fits first).0) (at_drop row.front keys q k (at_take (row.back - row.front) (drop row.front keys) q k fits second).0) in
          omega (arith, same);
    } where
      fits : row.back - row.front ≤ length (drop row.front keys)
      fits = omega (arith, split.0, split.1, length-drop row.front keys)

    pub keys_back : part.section ≡ Back → AreKeys (seen rows places) part (drop row.back keys)
    keys_back side = record {
      there = λ q k at. here_at (row.back + q) k (at_drop row.back keys q k at) (back_in row.front row.back (row.back + q) (omega (arith, split.0)) (omega arith) ∙ sym side);
      all = λ k here.
          let st = position k Back side here in
          let past = in_back row.front row.back st.0 st.2 in
          (st.0 - row.back, drop_at row.back keys (st.0 - row.back) st.0 k st.1 (omega (arith, past.1)));
      once = λ p q k first second. let same = alone (row.back + p) (row.back + q) k (at_drop row.back keys p k first) (at_drop row.back keys q k second) in omega (arith, same);
    }

    -- the first keys of the list, if they are those of these parts
    pub keys_first : (n : ℕ) → n ≤ length keys → ((q : ℕ) → q < n → is_up_to part.section (section_at row q) ≡ true) → ((q : ℕ) → q < length keys → is_up_to part.section (section_at row q) ≡ true → q < n)
        → AreKeysUpTo (seen rows places) part (take n keys)
    keys_first n fits before within = record {
      there = λ q k at.
          let old = at_take n keys q k fits at in
          (section_at row q, part_here part.list q k (at_row q k old.0) ∙ ap (λ (w : Row). some_part part.list (section_at w q)) (sym row_is), before q old.1);
      all = λ k w here up.
          let st = stands_at rows places valid k part.list w here in
          let at = row_at_key (place_at places k).position k st.at in
          let side : section_at row (place_at places k).position ≡ w = ap (λ (r : Row). section_at r (place_at places k).position) row_is ∙ st.side in
          ((place_at places k).position, take_at n keys (place_at places k).position k fits at (within (place_at places k).position at.within (ap (is_up_to part.section) side ∙ up)));
      once = λ p q k first second. alone p q k (at_take n keys p k fits first).0 (at_take n keys q k fits second).0;
    }

    pub first_front : part.section ≡ Front → AreKeysUpTo (seen rows places) part (take row.front keys)
    first_front side = keys_first row.front (omega (arith, split.0, split.1))
        (λ q before. ap (λ (w : Section). is_up_to w (section_at row q)) side ∙ up_to_front row.front row.back q before)
        (λ q _ up. front_up_to row.front row.back q (sym (ap (λ (w : Section). is_up_to w (section_at row q)) side) ∙ up))

    pub first_middle : part.section ≡ Middle → AreKeysUpTo (seen rows places) part (take row.back keys)
    first_middle side = keys_first row.back split.1
        (λ q before. ap (λ (w : Section). is_up_to w (section_at row q)) side ∙ up_to_middle row.front row.back q before)
        (λ q _ up. middle_up_to row.front row.back q split.0 (sym (ap (λ (w : Section). is_up_to w (section_at row q)) side) ∙ up))

    pub first_back : part.section ≡ Back → AreKeysUpTo (seen rows places) part keys
    first_back side = subst (AreKeysUpTo (seen rows places) part) (take_all (length keys) keys (omega arith)) (keys_first (length keys) (omega arith)
        (λ q before. ap (λ (w : Section). is_up_to w (section_at row q)) side ∙ up_to_back (section_at row q))
        (λ q before up. before))

  -- past the last list there are no keys
  pub no_keys_past : (part : Part) → length rows ≤ part.list → AreKeysUpTo (seen rows places) part []
  no_keys_past part past = record {
    there = λ q k at. absurd (omega (arith, at.within));
    all = λ k w here up. absurd (omega (arith, past, (stands_at rows places valid k part.list w here).list_in));
    once = λ p q k first second. absurd (omega (arith, first.within));
  }

  pub keys_past : (part : Part) → length rows ≤ part.list → AreKeys (seen rows places) part []
  keys_past part past = record {
    there = λ q k at. absurd (omega (arith, at.within));
    all = λ k here. absurd (omega (arith, past, (stands_at rows places valid k part.list part.section here).list_in));
    once = λ p q k first second. absurd (omega (arith, first.within));
  }

-- the rest of a list to its end
pub drop_whole : (n : ℕ) (keys : List ℕ) → take (length keys - n) (drop n keys) ≡ drop n keys
drop_whole n keys = take_all (length keys - n) (drop n keys) (omega (arith, length-drop n keys))
