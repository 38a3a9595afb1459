-- Items with their links in slots: what is stored is what is seen, and what a change of a link leaves.
use Rattle.std.proofs.Common.{◌≡◌, ℕ, ◌+◌, ◌-◌, ◌<◌, ◌≤◌, ◌^◌, true, List, [], length, get_or, set, map, Option, Some, None, is_some, option_map, refl, sym, ap, subst, ◌∙◌, arith, zero, suc, inl, inr}
use Rattle.std.proofs.lemmas.List.{map-set, length-map, get_or_past}
use Rattle.std.proofs.lemmas.Bool.{cases_lt, cases_eq, false≢true}
use Rattle.std.proofs.Math.Seq.{map-set_same}
use Rattle.std.proofs.Math.ListN.{get_or-map}
use Rattle.slab.specs.Slab.{Slab, get, with_value}
use Rattle.asset_chains.specs.Chained.{Chained, chain_of, home_of, first_of, last_of, behind, ahead, lists}
use Rattle.asset_chains.specs.declared.links.Link.{Link}
use Rattle.asset_chains.specs.declared.heads.Head.{Head}
use Rattle.asset_chains.specs.declared.side.Side.{Side}
use Rattle.asset_chains.specs.declared.side.Side.TheVariants.{Row, Column}
use Rattle.asset_chains.specs.declared.slots.Slot.{Slot}
use Rattle.asset_chains.specs.Linked.{decoded, link_at, head_at, first_code, last_code, seen, Stores}
use Rattle.asset_chains.specs.Crossed.{lines, IsCrossed}
use Rattle.asset_chains.specs.Slots.{side_link, link_in, links_of, values_of, crossed, IsLined, AreCrossed}
use Rattle.asset_chains.proofs.RowLemmas.{decoded_first, decoded_last}
use Rattle.std.proofs.lemmas.Map.Steps.{length-le_from_distinct_below}
use Rattle.std.specs.Prelude.{unwrap_or}
use Rattle.asset_chains.specs.Chained.{pushed, IsConsistent}
use Rattle.asset_chains.proofs.KeyLemmas.{last_listed, split_at_key, lists-append}
use Rattle.std.proofs.lemmas.Bool.{or_left, or_right, eq-eqb}
use Rattle.std.proofs.Common.{eqb, ◌∷◌}
use Rattle.std.proofs.lemmas.List.{length-append}
use Rattle.asset_chains.proofs.RowLemmas.{last_code-cons}
use Rattle.asset_chains.proofs.Laws.{is_pushed, home_within}
use Rattle.asset_chains.proofs.SoundLemmas.{sound_pushed}
use Rattle.asset_chains.proofs.StoreLemmas.{link_of, stored_home, stored_home_is, seen_is, stores_nothing}

-- the heads of the rows, or those of the columns
abbrev pub heads_of : Side → List Head → List Head → List Head
heads_of Row rows columns = rows
heads_of Column rows columns = columns

decoded_positive : (n : ℕ) → is_some (decoded n) ≡ true → 0 < n
decoded_positive zero some = absurd (false≢true some)
decoded_positive (suc n) some = omega arith

module _ {T : Type 0} where
  -- what is seen on a side is stored there
  pub lined : (side : Side) (slots : Slab (Slot T)) (rows columns : List Head) → AreCrossed slots rows columns → IsLined side slots (heads_of side rows columns)
  lined Row slots rows columns are = are.by_row
  lined Column slots rows columns are = are.by_column

  pub lines_seen : (side : Side) (slots : Slab (Slot T)) (rows columns : List Head) → lines side (crossed slots rows columns) ≡ seen (links_of side slots) (heads_of side rows columns)
  lines_seen Row slots rows columns = refl
  lines_seen Column slots rows columns = refl

  -- the link of a key is the one in its slot
  pub link_read : (side : Side) (slots : Slab (Slot T)) (k : ℕ) → link_at (links_of side slots) k ≡ link_in side (get slots k)
  link_read side slots k = get_or-map (link_in side) slots.slots k None

  -- ---- what is read
  pub home_read : (side : Side) (slots : Slab (Slot T)) (heads : List Head) → IsLined side slots heads → (k : ℕ) → decoded (link_at (links_of side slots) k).home ≡ home_of (seen (links_of side slots) heads) k
  home_read side slots heads lined k = stored_home (links_of side slots) heads (seen (links_of side slots) heads) lined.stored k

  pub next_read : (side : Side) (slots : Slab (Slot T)) (heads : List Head) → IsLined side slots heads → (k c : ℕ) → home_of (seen (links_of side slots) heads) k ≡ Some c
      → decoded (link_at (links_of side slots) k).after ≡ first_of (behind k (chain_of (seen (links_of side slots) heads) c))
  next_read side slots heads lined k c home =
      ap (λ (l : Link). decoded l.after) (link_of (links_of side slots) heads (seen (links_of side slots) heads) lined.stored k c home)
      ∙ decoded_first (behind k (chain_of (seen (links_of side slots) heads) c))

  pub previous_read : (side : Side) (slots : Slab (Slot T)) (heads : List Head) → IsLined side slots heads → (k c : ℕ) → home_of (seen (links_of side slots) heads) k ≡ Some c
      → decoded (link_at (links_of side slots) k).before ≡ last_of (ahead k (chain_of (seen (links_of side slots) heads) c))
  previous_read side slots heads lined k c home =
      ap (λ (l : Link). decoded l.before) (link_of (links_of side slots) heads (seen (links_of side slots) heads) lined.stored k c home)
      ∙ decoded_last (ahead k (chain_of (seen (links_of side slots) heads) c))

  -- the slot of a key with a link is there
  pub there_from : (side : Side) (slots : Slab (Slot T)) (k : ℕ) → 0 < (link_at (links_of side slots) k).home → is_some (get slots k) ≡ true
  there_from side slots k some = by (get slots k) refl where
    by : (o : Option (Slot T)) → get slots k ≡ o → is_some (get slots k) ≡ true
    by (Some slot) e = ap (λ (o : Option (Slot T)). is_some o) e
    by None e = absurd (omega (arith, some, ap (λ (l : Link). l.home) (link_read side slots k ∙ ap (link_in side) e)))

  -- ---- a link is set
  pub links_set : (side : Side) (slots : Slab (Slot T)) (key : ℕ) (slot : Slot T) → links_of side (with_value slots key slot) ≡ set (links_of side slots) key (side_link side slot)
  links_set side slots key slot = map-set (link_in side) slots.slots key (Some slot)

  pub links_kept : (side : Side) (slots : Slab (Slot T)) (key : ℕ) (was slot : Slot T) → get slots key ≡ Some was → side_link side slot ≡ side_link side was → links_of side (with_value slots key slot) ≡ links_of side slots
  links_kept side slots key was slot read same = map-set_same (link_in side) slots.slots key (Some slot) None (same ∙ sym (ap (link_in side) read))

  pub values_kept : (slots : Slab (Slot T)) (key : ℕ) (was slot : Slot T) → get slots key ≡ Some was → slot.item ≡ was.item → values_of (with_value slots key slot) ≡ values_of slots
  values_kept slots key was slot read same =
      let item = option_map (λ (slot : Slot T). slot.item) in
      ap (λ (l : List (Option T)). record { slots = l; vacant_key = slots.vacant_key; capacity = slots.capacity })
      (map-set_same item slots.slots key (Some slot) None (ap Some same ∙ sym (ap item read)))

  -- ---- what a change of links keeps
  pub same_length : (side : Side) (old new : Slab (Slot T)) → values_of new ≡ values_of old → length (links_of side new) ≡ length (links_of side old)
  same_length side old new same =
      let item = option_map (λ (slot : Slot T). slot.item) in
      length-map new.slots (link_in side) ∙ sym (length-map new.slots item) ∙ ap (λ (s : Slab T). length s.slots) same ∙ length-map old.slots item ∙ sym (length-map old.slots (link_in side))

  pub some_kept : (o : Option (Slot T)) → is_some (option_map (λ (slot : Slot T). slot.item) o) ≡ is_some o
  some_kept None = refl
  some_kept (Some slot) = refl

  pub value_read : (slots : Slab (Slot T)) (k : ℕ) → get (values_of slots) k ≡ option_map (λ (slot : Slot T). slot.item) (get slots k)
  value_read slots k = get_or-map (option_map (λ (slot : Slot T). slot.item)) slots.slots k None

  pub value_some : (slots : Slab (Slot T)) (k : ℕ) → is_some (get (values_of slots) k) ≡ is_some (get slots k)
  value_some slots k = ap (λ (o : Option T). is_some o) (value_read slots k) ∙ some_kept (get slots k)

  pub there_kept : (old new : Slab (Slot T)) → values_of new ≡ values_of old → (k : ℕ) → is_some (get new k) ≡ is_some (get old k)
  there_kept old new same k = sym (value_some new k) ∙ ap (λ (s : Slab T). is_some (get s k)) same ∙ value_some old k

  -- ---- where the keys of a chain are
  -- a key with a home has a link, and an item
  pub home_positive : (side : Side) (slots : Slab (Slot T)) (heads : List Head) → IsLined side slots heads → (k : ℕ) → is_some (home_of (seen (links_of side slots) heads) k) ≡ true
      → 0 < (link_at (links_of side slots) k).home
  home_positive side slots heads lined k some =
      decoded_positive (link_at (links_of side slots) k).home (ap (λ (o : Option ℕ). is_some o) (home_read side slots heads lined k) ∙ some)

  pub listed_there : (side : Side) (slots : Slab (Slot T)) (heads : List Head) → IsLined side slots heads → (c k : ℕ) → lists (chain_of (seen (links_of side slots) heads) c) k ≡ true → is_some (get slots k) ≡ true
  listed_there side slots heads lined c k listed =
      there_from side slots k (home_positive side slots heads lined k (ap (λ (o : Option ℕ). is_some o) (lined.stored.sound.at_home c k listed)))

  last_there : (slots : Slab (Slot T)) (keys : List ℕ) → ((k : ℕ) → lists keys k ≡ true → is_some (get slots k) ≡ true) → 0 < last_code 0 keys → is_some (get slots (last_code 0 keys - 1)) ≡ true
  last_there slots [] there some = absurd (omega (arith, some))
  last_there slots (x ∷ xs) there some =
      let last : ℕ = unwrap_or (last_of xs) x in
      let is : last_code 0 (x ∷ xs) - 1 ≡ last = omega (arith, last_code-cons 0 x xs) in
      ap (λ (k : ℕ). is_some (get slots k)) is ∙ there last (last_listed last (x ∷ xs) refl)

  first_there : (slots : Slab (Slot T)) (keys : List ℕ) → ((k : ℕ) → lists keys k ≡ true → is_some (get slots k) ≡ true) → 0 < first_code keys 0 → is_some (get slots (first_code keys 0 - 1)) ≡ true
  first_there slots [] there some = absurd (omega (arith, some))
  first_there slots (x ∷ xs) there some =
      let is : first_code (x ∷ xs) 0 - 1 ≡ x = omega arith in
      ap (λ (k : ℕ). is_some (get slots k)) is ∙ there x (or_left (eqb x x) (lists xs x) (eq-eqb x x refl))

  -- the last key of a chain is there
  pub head_there : (side : Side) (slots : Slab (Slot T)) (heads : List Head) → IsLined side slots heads → (c : ℕ) (head : Head) → head ≡ head_at heads c → 0 < head.last → is_some (get slots (head.last - 1)) ≡ true
  head_there side slots heads lined c head read some =
      let keys = chain_of (seen (links_of side slots) heads) c in
      let last : head.last ≡ last_code 0 keys = ap (λ (h : Head). h.last) (read ∙ lined.stored.ends c) in
      ap (λ (n : ℕ). is_some (get slots (n - 1))) last ∙ last_there slots keys (listed_there side slots heads lined c) (omega (arith, some, last))

  -- the neighbours of a key are there
  pub before_there : (side : Side) (slots : Slab (Slot T)) (heads : List Head) → IsLined side slots heads → (k c : ℕ) (link : Link) → link ≡ link_at (links_of side slots) k
      → home_of (seen (links_of side slots) heads) k ≡ Some c → 0 < link.before → is_some (get slots (link.before - 1)) ≡ true
  before_there side slots heads lined k c link read home some =
      let table = seen (links_of side slots) heads in
      let keys = chain_of table c in
      let is : link.before ≡ last_code 0 (ahead k keys) = ap (λ (l : Link). l.before) (read ∙ link_of (links_of side slots) heads table lined.stored k c home) in
      let cut = split_at_key k keys (lined.stored.sound.listed c k home) in
      ap (λ (n : ℕ). is_some (get slots (n - 1))) is
      ∙ last_there slots (ahead k keys)
      (λ j there. listed_there side slots heads lined c j (ap (λ (l : List ℕ). lists l j) cut ∙ lists-append (ahead k keys) (k ∷ behind k keys) j ∙ or_left (lists (ahead k keys) j) (lists (k ∷ behind k keys) j) there))
      (omega (arith, some, is))

  pub after_there : (side : Side) (slots : Slab (Slot T)) (heads : List Head) → IsLined side slots heads → (k c : ℕ) (link : Link) → link ≡ link_at (links_of side slots) k
      → home_of (seen (links_of side slots) heads) k ≡ Some c → 0 < link.after → is_some (get slots (link.after - 1)) ≡ true
  after_there side slots heads lined k c link read home some =
      let table = seen (links_of side slots) heads in
      let keys = chain_of table c in
      let is : link.after ≡ first_code (behind k keys) 0 = ap (λ (l : Link). l.after) (read ∙ link_of (links_of side slots) heads table lined.stored k c home) in
      let cut = split_at_key k keys (lined.stored.sound.listed c k home) in
      ap (λ (n : ℕ). is_some (get slots (n - 1))) is
      ∙ first_there slots (behind k keys)
      (λ j there. listed_there side slots heads lined c j
      (ap (λ (l : List ℕ). lists l j) cut ∙ lists-append (ahead k keys) (k ∷ behind k keys) j ∙ or_right (lists (ahead k keys) j) (lists (k ∷ behind k keys) j) (or_right (eqb j k) (lists (behind k keys) j) there)))
      (omega (arith, some, is))

  -- ---- numbers
  key_below : (slots : Slab (Slot T)) (k : ℕ) → is_some (get slots k) ≡ true → k < length slots.slots
  key_below slots k there = elim (cases_lt k (length slots.slots)) [
    | inl within ↦ within
    | inr past ↦ absurd (false≢true (sym (ap (λ (o : Option (Slot T)). is_some o) (get_or_past slots.slots k None past)) ∙ there))
  ]

  pub key_linked : (side : Side) (slots : Slab (Slot T)) (heads : List Head) → IsLined side slots heads → (k : ℕ) → is_some (get slots k) ≡ true → k < length (seen (links_of side slots) heads).homes
  key_linked side slots heads lined k there = omega (arith, key_below slots k there, lined.stored.keys, length-map slots.slots (link_in side))

  -- one more key fits into the count of a chain
  pub count_below : (side : Side) (slots : Slab (Slot T)) (heads : List Head) → IsLined side slots heads → ((k : ℕ) → is_some (get slots k) ≡ true → k + 1 < 2 ^ 32)
      → (c k : ℕ) (head : Head) → head ≡ head_at heads c → c < length heads → is_some (get slots k) ≡ true → home_of (seen (links_of side slots) heads) k ≡ None → head.count + 1 < 2 ^ 32
  count_below side slots heads lined few c k head read chain there free =
      let table = seen (links_of side slots) heads in
      let new = pushed c k table in
      let below : c < length table.chains = omega (arith, chain, lined.stored.chains) in
      let key = key_linked side slots heads lined k there in
      let change = is_pushed c k table below key in
      let sound = sound_pushed c k table lined.stored.sound below key free in
      let bound = length-le_from_distinct_below (chain_of new c) (2 ^ 32 - 1) (sound.once c) (λ j listed. omega (
        arith,
        few j (elim (cases_eq j k) [
          | inl same ↦ ap (λ (n : ℕ). is_some (get slots n)) same ∙ there
          | inr apart ↦ there_from side slots j (home_positive side slots heads lined j (ap (λ (o : Option ℕ). is_some o) (sym (change.homes j apart) ∙ sound.at_home c j listed)))
        ]),
      )) in
      omega (arith, bound, ap (λ (l : List ℕ). length l) change.chain, length-append (chain_of table c) (k ∷ []), ap (λ (h : Head). h.count) (read ∙ lined.stored.ends c))

  -- ---- what the calls leave
  pub lined_from : (side : Side) (slots : Slab (Slot T)) (heads : List Head) (links : List Link) (table : Chained) → links_of side slots ≡ links → Stores links heads table → length heads < 2 ^ 32
      → IsLined side slots heads × (seen (links_of side slots) heads ≡ table)
  lined_from side slots heads links table same stores few =
      let here : Stores (links_of side slots) heads table = subst (λ (l : List Link). Stores l heads table) (sym same) stores in
      let is = seen_is (links_of side slots) heads table here in
      (record { stored = subst (Stores (links_of side slots) heads) (sym is) here; few = few }, is)

  -- the chain of a key that leaves it
  pub leaving : (side : Side) (slots : Slab (Slot T)) (heads : List Head) → IsLined side slots heads → (k : ℕ) (link : Link) → link ≡ link_at (links_of side slots) k
      → is_some (home_of (seen (links_of side slots) heads) k) ≡ true → (0 < link.home) × (home_of (seen (links_of side slots) heads) k ≡ Some (link.home - 1)) × (link.home - 1 < length heads)
  leaving side slots heads lined k link read some =
      let links = links_of side slots in
      let table = seen links heads in
      let positive : 0 < link.home = omega (arith, home_positive side slots heads lined k some, ap (λ (l : Link). l.home) read) in
      let home = stored_home_is links heads table lined.stored k link read positive in
      (positive, home, omega (arith, (home_within k (link.home - 1) table lined.stored.sound home).1, lined.stored.chains))

  -- ---- all items
  pub in_line : (side : Side) (slots : Slab (Slot T)) (heads : List Head) → IsLined side slots heads → ((k : ℕ) → is_some (get slots k) ≡ true → 0 < (link_in side (get slots k)).home)
      → (k : ℕ) → is_some (home_of (seen (links_of side slots) heads) k) ≡ is_some (get (values_of slots) k)
  in_line side slots heads lined positive k = by (get slots k) refl where
    some_decoded : (n : ℕ) → 0 < n → is_some (decoded n) ≡ true
    some_decoded zero some = absurd (omega (arith, some))
    some_decoded (suc n) some = refl

    by : (o : Option (Slot T)) → get slots k ≡ o → is_some (home_of (seen (links_of side slots) heads) k) ≡ is_some (get (values_of slots) k)
    by None e =
        ap (λ (o : Option ℕ). is_some o) (sym (home_read side slots heads lined k) ∙ ap (λ (l : Link). decoded l.home) (link_read side slots k ∙ ap (link_in side) e))
        ∙ sym (value_some slots k ∙ ap (λ (o : Option (Slot T)). is_some o) e)
    by (Some slot) e =
        let there = ap (λ (o : Option (Slot T)). is_some o) e in
        ap (λ (o : Option ℕ). is_some o) (sym (home_read side slots heads lined k) ∙ ap (λ (l : Link). decoded l.home) (link_read side slots k))
        ∙ some_decoded (link_in side (get slots k)).home (positive k there) ∙ sym (value_some slots k ∙ there)

  pub is_crossed : (slots : Slab (Slot T)) (rows columns : List Head) → AreCrossed slots rows columns → IsCrossed (crossed slots rows columns)
  is_crossed slots rows columns are = record { sound = sound; placed = placed } where
    sound : (side : Side) → IsConsistent (lines side (crossed slots rows columns))
    sound Row = are.by_row.stored.sound
    sound Column = are.by_column.stored.sound

    placed : (side : Side) (k : ℕ) → is_some (home_of (lines side (crossed slots rows columns)) k) ≡ is_some (get (values_of slots) k)
    placed Row = in_line Row slots rows are.by_row are.in_row
    placed Column = in_line Column slots columns are.by_column are.in_column

  pub few_lines : (slots : Slab (Slot T)) (rows columns : List Head) → AreCrossed slots rows columns → (side : Side) → length (lines side (crossed slots rows columns)).chains < 2 ^ 32
  few_lines slots rows columns are Row = omega (arith, are.by_row.few, are.by_row.stored.chains)
  few_lines slots rows columns are Column = omega (arith, are.by_column.few, are.by_column.stored.chains)

  pub short_lines : (slots : Slab (Slot T)) (rows columns : List Head) → AreCrossed slots rows columns → (side : Side) (c : ℕ) → length (chain_of (lines side (crossed slots rows columns)) c) ≤ 2 ^ 32
  short_lines slots rows columns are side c =
      let all = is_crossed slots rows columns are in
      length-le_from_distinct_below (chain_of (lines side (crossed slots rows columns)) c) (2 ^ 32) ((all.sound side).once c)
      (λ k among. omega (arith, are.few k (sym (value_some slots k) ∙ sym (all.placed side k) ∙ ap (λ (o : Option ℕ). is_some o) ((all.sound side).at_home c k among))))

  pub are_nothing : (slots : Slab (Slot T)) → slots.slots ≡ [] → AreCrossed slots [] []
  are_nothing slots none =
      let absent = λ (k : ℕ). ap (λ (l : List (Option (Slot T))). is_some (get_or l k None)) none in
      let side_nothing = λ (side : Side). let empty : links_of side slots ≡ [] = ap (map (link_in side)) none in
      (lined_from side slots [] [] (seen [] []) empty (stores_nothing (seen [] []) refl refl) (omega arith)).0 in
      record {
        by_row = side_nothing Row;
        by_column = side_nothing Column;
        few = λ k there. absurd (false≢true (sym (absent k) ∙ there));
        in_row = λ k there. absurd (false≢true (sym (absent k) ∙ there));
        in_column = λ k there. absurd (false≢true (sym (absent k) ∙ there));
      }
