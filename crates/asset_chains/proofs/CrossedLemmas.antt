-- Items that come into rows and columns, leave them, and move in them.
use Rattle.std.proofs.Common.{◌≡◌, ℕ, ◌+◌, ◌-◌, ◌<◌, ◌≤◌, ◌^◌, Bool, true, List, [], ◌∷◌, ◌++◌, length, map, Option, Some, None, is_some, option_map, refl, sym, ap, subst, ◌∙◌, arith, inl, inr}
use Rattle.std.specs.Prelude.{nat_lt, ◌&&◌, cond, OnOk, OnErr, Result, Ok, Err}
use Rattle.std.proofs.lemmas.List.Sums.{sum_by-cons}
use Rattle.std.specs.List.{count_by}
use Rattle.std.proofs.lemmas.Bool.{cases_eq, false≢true, and_parts, and_from, ltb-true, lt-ltb}
use Rattle.std.proofs.lemmas.List.{length-map, length-append, map-set}
use Rattle.std.proofs.Math.ListN.{get_or-map}
use Rattle.slab.specs.Slab.{Slab, get, slab_len, with_value, Updates, HasRoomFor}
use Rattle.asset_chains.specs.Chained.{Chained, chain_of, home_of, pushed, unlinked, one_chain_more, IsConsistent}
use Rattle.asset_chains.specs.declared.links.Link.{Link}
use Rattle.asset_chains.specs.declared.heads.Head.{Head}
use Rattle.asset_chains.specs.declared.side.Side.{Side}
use Rattle.asset_chains.specs.declared.side.Side.TheVariants.{Row, Column}
use Rattle.asset_chains.specs.declared.slots.Slot.{Slot}
use Rattle.asset_chains.specs.Linked.{decoded, no_link, no_head, link_at, head_of, IsRow, seen, Stores}
use Rattle.asset_chains.specs.Crossed.{Crossed, lines, other_side, has_room, Joins, Leaves, IsGrown}
use Rattle.asset_chains.specs.Slots.{link_in, links_of, values_of, crossed, IsLined, AreCrossed}
use Rattle.asset_chains.proofs.Laws.{pushes, unlinks, key_within, chain_more-chain, chain_more-home, chain_more-chains}
use Rattle.asset_chains.proofs.RowLemmas.{row_frame}
use Rattle.asset_chains.proofs.SoundLemmas.{sound_same}
use Rattle.asset_chains.proofs.StoreLemmas.{stores_chain_more}
use Rattle.asset_chains.proofs.Walks.{chain_same, chains_without}
use Rattle.asset_chains.proofs.SlotLemmas.{link_read, home_read, home_positive, value_read, value_some, there_kept, key_linked, lined_from, in_line, some_kept, leaving}

-- two tables whose chains and homes are the same
pub record SameLine (old new : Chained) : Type 0 where
  pub chains : (c : ℕ) → chain_of new c ≡ chain_of old c
  pub homes : (k : ℕ) → home_of new k ≡ home_of old k
  pub many : length new.chains ≡ length old.chains

home_mapped : (links : List Link) (chains : List (List ℕ)) (k : ℕ) → home_of (record { chains = chains; homes = map (λ (l : Link). decoded l.home) links }) k ≡ decoded (link_at links k).home
unfolding home_of
home_mapped links chains k = get_or-map (λ (l : Link). decoded l.home) links k no_link

-- a key joins what shows the same
pub joins_from : (c k : ℕ) (old mid new : Chained) → SameLine old mid → c < length mid.chains → k < length mid.homes → new ≡ pushed c k mid → Joins c k old new
joins_from c k old mid new same chain key is =
    let change = pushes c k mid new chain key is in
    record {
      chain = change.chain ∙ ap (λ (l : List ℕ). l ++ k ∷ []) (same.chains c);
      chains = λ d apart. change.chains d apart ∙ same.chains d;
      home = change.home;
      homes = λ j apart. change.homes j apart ∙ same.homes j;
      many = change.same_chains ∙ same.many;
    }

-- a key leaves, and then the same shows
pub leaves_from : (c k : ℕ) (old mid new : Chained) → IsConsistent old → home_of old k ≡ Some c → mid ≡ unlinked k old → SameLine mid new → Leaves k old new
leaves_from c k old mid new sound home is same =
    let change = unlinks c k old mid home is in
    record {
      chains = λ d. same.chains d ∙ chains_without old mid k c sound home is d;
      home = same.homes k ∙ change.home;
      homes = λ j apart. same.homes j ∙ change.homes j apart;
      many = same.many ∙ change.same_chains;
    }

-- a key that moved has a home, as each other key had
moved_homes : (key c : ℕ) (was now : Chained) → IsConsistent was → (d : ℕ) → home_of was key ≡ Some d → c < length was.chains → now ≡ pushed c key (unlinked key was)
    → (k : ℕ) → is_some (home_of was k) ≡ true → is_some (home_of now k) ≡ true
moved_homes key c was now sound d home chain is k some =
    let away = unlinks d key was (unlinked key was) home refl in
    let change = pushes c key (unlinked key was) now (omega (arith, chain, away.same_chains)) (omega (arith, key_within key d was home, away.same_keys)) is in
    elim (cases_eq k key) [
      | inl same ↦ ap (λ (n : ℕ). is_some (home_of now n)) same ∙ ap (λ (o : Option ℕ). is_some o) change.home
      | inr apart ↦ ap (λ (o : Option ℕ). is_some o) (change.homes k apart ∙ away.homes k apart) ∙ some
    ]

module _ {T : Type 0} where
  -- slots with the same links show the same chains
  pub lined_same : (side : Side) (old new : Slab (Slot T)) (heads : List Head) → IsLined side old heads → ((k : ℕ) → link_in side (get new k) ≡ link_in side (get old k))
      → IsLined side new heads × SameLine (seen (links_of side old) heads) (seen (links_of side new) heads)
  lined_same side old new heads lined same =
      let links = links_of side new in
      let was = seen (links_of side old) heads in
      let table : Chained = record { chains = was.chains; homes = map (λ (l : Link). decoded l.home) links } in
      let link : (k : ℕ) → link_at links k ≡ link_at (links_of side old) k = λ k. link_read side new k ∙ same k ∙ sym (link_read side old k) in
      let chain : (c : ℕ) → chain_of table c ≡ chain_of was c = chain_same was table refl in
      let home : (k : ℕ) → home_of table k ≡ home_of was k = λ k. home_mapped links was.chains k ∙ ap (λ (l : Link). decoded l.home) (link k) ∙ home_read side old heads lined k in
      let stores : Stores links heads table = record {
        sound = sound_same was table chain home lined.stored.sound;
        keys = length-map links (λ (l : Link). decoded l.home);
        chains = lined.stored.chains;
        rows = λ c. subst (λ (keys : List ℕ). IsRow (link_at links) c 0 keys 0) (sym (chain c)) (row_frame (link_at (links_of side old)) (link_at links) c 0 (chain_of was c) 0 (λ j there. link j) (lined.stored.rows c));
        ends = λ c. lined.stored.ends c ∙ ap head_of (sym (chain c));
        free = λ k none. link k ∙ lined.stored.free k (sym (home k) ∙ none);
      } in
      let left = lined_from side new heads links table refl stores lined.few in (
        left.0,
        record {
          chains = λ c. ap (λ (t : Chained). chain_of t c) left.1 ∙ chain c;
          homes = λ k. ap (λ (t : Chained). home_of t k) left.1 ∙ home k;
          many = ap (λ (t : Chained). length t.chains) left.1;
        },
      )

  pub lined_links : (side : Side) (old new : Slab (Slot T)) (heads : List Head) → IsLined side old heads → links_of side new ≡ links_of side old → IsLined side new heads
  lined_links side old new heads lined same = (lined_from side new heads (links_of side old) (seen (links_of side old) heads) same lined.stored lined.few).0

  -- an item with a home has a link
  pub positive_from : (side : Side) (slots : Slab (Slot T)) (heads : List Head) → IsLined side slots heads → ((k : ℕ) → is_some (get slots k) ≡ true → is_some (home_of (seen (links_of side slots) heads) k) ≡ true)
      → (k : ℕ) → is_some (get slots k) ≡ true → 0 < (link_in side (get slots k)).home
  positive_from side slots heads lined homes k there =
      omega (arith, home_positive side slots heads lined k (homes k there), ap (λ (l : Link). l.home) (link_read side slots k))

  pub home_some : (side : Side) (slots : Slab (Slot T)) (heads : List Head) → IsLined side slots heads → ((k : ℕ) → is_some (get slots k) ≡ true → 0 < (link_in side (get slots k)).home)
      → (k : ℕ) → is_some (get slots k) ≡ true → is_some (home_of (seen (links_of side slots) heads) k) ≡ true
  home_some side slots heads lined positive k there = in_line side slots heads lined positive k ∙ value_some slots k ∙ there

  -- ---- one more item
  fresh_link : (side : Side) (item : T) → link_in side (Some (record { item = item; row = no_link; column = no_link })) ≡ no_link
  fresh_link Row item = refl
  fresh_link Column item = refl

  -- a slot with empty links shows nothing
  pub fresh_links : (side : Side) (old new : Slab (Slot T)) (key : ℕ) (item : T) → get old key ≡ None → Updates old new key (Some (record { item = item; row = no_link; column = no_link }))
      → (k : ℕ) → link_in side (get new k) ≡ link_in side (get old k)
  fresh_links side old new key item vacant updates k = elim (cases_eq k key) [
    | inl same ↦ ap (λ (n : ℕ). link_in side (get new n)) same ∙ ap (link_in side) updates.changed ∙ fresh_link side item ∙ sym (ap (link_in side) (ap (get old) same ∙ vacant))
    | inr apart ↦ ap (link_in side) (updates.others k apart)
  ]

  pub few_more : (old new : Slab (Slot T)) (key : ℕ) (slot : Slot T) → ((k : ℕ) → is_some (get old k) ≡ true → k + 1 < 2 ^ 32) → key + 1 < 2 ^ 32 → Updates old new key (Some slot)
      → (k : ℕ) → is_some (get new k) ≡ true → k + 1 < 2 ^ 32
  few_more old new key slot few below updates k there = elim (cases_eq k key) [
    | inl same ↦ omega (arith, same, below)
    | inr apart ↦ few k (sym (ap (λ (o : Option (Slot T)). is_some o) (updates.others k apart)) ∙ there)
  ]

  -- each item has a home after one more has joined
  pub joined_homes : (old new : Slab (Slot T)) (key : ℕ) (slot : Slot T) (c : ℕ) (was now : Chained) → Updates old new key (Some slot) → Joins c key was now
      → ((k : ℕ) → is_some (get old k) ≡ true → is_some (home_of was k) ≡ true) → (k : ℕ) → is_some (get new k) ≡ true → is_some (home_of now k) ≡ true
  joined_homes old new key slot c was now updates joins homes k there = elim (cases_eq k key) [
    | inl same ↦ ap (λ (n : ℕ). is_some (home_of now n)) same ∙ ap (λ (o : Option ℕ). is_some o) joins.home
    | inr apart ↦ ap (λ (o : Option ℕ). is_some o) (joins.homes k apart) ∙ homes k (sym (ap (λ (o : Option (Slot T)). is_some o) (updates.others k apart)) ∙ there)
  ]

  -- ---- values
  pub values_updated : (old new : Slab (Slot T)) (key : ℕ) (slot : Option (Slot T)) → Updates old new key slot → Updates (values_of old) (values_of new) key (option_map (λ (slot : Slot T). slot.item) slot)
  values_updated old new key slot updates = record {
    changed = value_read new key ∙ ap (option_map (λ (slot : Slot T). slot.item)) updates.changed;
    others = λ k apart. value_read new k ∙ ap (option_map (λ (slot : Slot T). slot.item)) (updates.others k apart) ∙ sym (value_read old k);
  }

  count_mapped : (slots : List (Option (Slot T))) → count_by (λ (o : Option T). is_some o) (map (option_map (λ (slot : Slot T). slot.item)) slots) ≡ count_by (λ (o : Option (Slot T)). is_some o) slots
  count_mapped [] = refl
  count_mapped (o ∷ slots) =
      sum_by-cons (λ (o : Option T). cond (is_some o) 1 0) (option_map (λ (slot : Slot T). slot.item) o) (map (option_map (λ (slot : Slot T). slot.item)) slots)
      ∙ ap (λ (b : Bool). cond b 1 0 + count_by (λ (o : Option T). is_some o) (map (option_map (λ (slot : Slot T). slot.item)) slots)) (some_kept o)
      ∙ ap (λ (n : ℕ). cond (is_some o) 1 0 + n) (count_mapped slots)
      ∙ sym (sum_by-cons (λ (o : Option (Slot T)). cond (is_some o) 1 0) o slots)

  pub values_count : (slots : Slab (Slot T)) → slab_len (values_of slots) ≡ slab_len slots
  values_count slots = count_mapped slots.slots

  -- ---- room
  pub room_parts : (slots : Slab (Slot T)) (rows columns : List Head) → has_room (crossed slots rows columns) ≡ true → HasRoomFor slots 1 × (slots.vacant_key < 0xFFFF_FFFF)
  unfolding has_room
  room_parts slots rows columns room =
      let parts = and_parts (nat_lt (slab_len (values_of slots)) slots.capacity) (nat_lt slots.vacant_key 0xFFFF_FFFF) room in
      (omega (arith, ltb-true (slab_len (values_of slots)) slots.capacity parts.0, values_count slots), ltb-true slots.vacant_key 0xFFFF_FFFF parts.1)

  pub room_from : (slots : Slab (Slot T)) (rows columns : List Head) → HasRoomFor slots 1 → slots.vacant_key < 0xFFFF_FFFF → has_room (crossed slots rows columns) ≡ true
  unfolding has_room
  room_from slots rows columns room vacant =
      and_from (nat_lt (slab_len (values_of slots)) slots.capacity) (nat_lt slots.vacant_key 0xFFFF_FFFF)
      (lt-ltb (slab_len (values_of slots)) slots.capacity (omega (arith, room, values_count slots))) (lt-ltb slots.vacant_key 0xFFFF_FFFF vacant)

  -- ---- an item inserted
  pub record IsInserted (row column key : ℕ) (slot : Slot T) (old new : Slab (Slot T)) (rows columns more_rows more_columns : List Head) : Type 0 where
    pub are : AreCrossed new more_rows more_columns
    pub by_row : Joins row key (seen (links_of Row old) rows) (seen (links_of Row new) more_rows)
    pub by_column : Joins column key (seen (links_of Column old) columns) (seen (links_of Column new) more_columns)

  pub inserted : (row column key : ℕ) (item : T) (old first second third : Slab (Slot T)) (rows columns more_rows more_columns : List Head)
      → AreCrossed old rows columns → get old key ≡ None → key + 1 < 2 ^ 32 → Updates old first key (Some (record { item = item; row = no_link; column = no_link }))
      → row < length rows → column < length columns
      → IsLined Row second more_rows → seen (links_of Row second) more_rows ≡ pushed row key (seen (links_of Row first) rows) → links_of Column second ≡ links_of Column first → values_of second ≡ values_of first
      → IsLined Column third more_columns → seen (links_of Column third) more_columns ≡ pushed column key (seen (links_of Column second) columns) → links_of Row third ≡ links_of Row second → values_of third ≡ values_of second
      → IsInserted row column key (record { item = item; row = no_link; column = no_link }) old third rows columns more_rows more_columns
  inserted row column key item old first second third rows columns more_rows more_columns are vacant below updates in_rows in_columns row_lined row_pushed row_others row_values column_lined column_pushed column_others column_values =
      let slot : Slot T = record { item = item; row = no_link; column = no_link } in
      let there : is_some (get first key) ≡ true = ap (λ (o : Option (Slot T)). is_some o) updates.changed in
      let by_row = lined_same Row old first rows are.by_row (fresh_links Row old first key item vacant updates) in
      let by_column = lined_same Column old first columns are.by_column (fresh_links Column old first key item vacant updates) in
      let joins_row : Joins row key (seen (links_of Row old) rows) (seen (links_of Row third) more_rows) =
      joins_from row key (seen (links_of Row old) rows) (seen (links_of Row first) rows) (seen (links_of Row third) more_rows) by_row.1
      (omega (arith, in_rows, by_row.0.stored.chains)) (key_linked Row first rows by_row.0 key there) (ap (λ (l : List Link). seen l more_rows) column_others ∙ row_pushed) in
      let joins_column : Joins column key (seen (links_of Column old) columns) (seen (links_of Column third) more_columns) =
      joins_from column key (seen (links_of Column old) columns) (seen (links_of Column first) columns) (seen (links_of Column third) more_columns) by_column.1
      (omega (arith, in_columns, by_column.0.stored.chains)) (key_linked Column first columns by_column.0 key there)
      (column_pushed ∙ ap (λ (l : List Link). pushed column key (seen l columns)) row_others) in
      let row_stays = lined_links Row second third more_rows row_lined column_others in
      let kept : (k : ℕ) → is_some (get third k) ≡ is_some (get first k) = there_kept first third (column_values ∙ row_values) in
      record {
        are = record {
          by_row = row_stays;
          by_column = column_lined;
          few = λ k stands. few_more old first key slot are.few below updates k (sym (kept k) ∙ stands);
          in_row = positive_from Row third more_rows row_stays
              (λ k stands. joined_homes old first key slot row (seen (links_of Row old) rows) (seen (links_of Row third) more_rows) updates joins_row (home_some Row old rows are.by_row are.in_row) k (sym (kept k) ∙ stands));
          in_column = positive_from Column third more_columns column_lined
              (λ k stands. joined_homes old first key slot column (seen (links_of Column old) columns) (seen (links_of Column third) more_columns) updates joins_column (home_some Column old columns are.by_column are.in_column) k (sym (kept k) ∙ stands));
        };
        by_row = joins_row;
        by_column = joins_column;
      }

  -- a new item has no home
  pub home_none : (side : Side) (old new : Slab (Slot T)) (heads : List Head) → IsLined side old heads → (key : ℕ) → get old key ≡ None → SameLine (seen (links_of side old) heads) (seen (links_of side new) heads)
      → home_of (seen (links_of side new) heads) key ≡ None
  home_none side old new heads lined key vacant same =
      same.homes key ∙ sym (home_read side old heads lined key) ∙ ap (λ (l : Link). decoded l.home) (link_read side old key ∙ ap (link_in side) vacant)

  -- ---- an item removed
  pub record IsRemoved (key : ℕ) (old new : Slab (Slot T)) (rows columns less_rows less_columns : List Head) : Type 0 where
    pub are : AreCrossed new less_rows less_columns
    pub by_row : Leaves key (seen (links_of Row old) rows) (seen (links_of Row new) less_rows)
    pub by_column : Leaves key (seen (links_of Column old) columns) (seen (links_of Column new) less_columns)

  -- a key without a home has an empty link
  no_home_link : (side : Side) (slots : Slab (Slot T)) (heads : List Head) → IsLined side slots heads → (k : ℕ) → home_of (seen (links_of side slots) heads) k ≡ None → link_in side (get slots k) ≡ no_link
  no_home_link side slots heads lined k none = sym (link_read side slots k) ∙ lined.stored.free k none

  gone_links : (side : Side) (old new : Slab (Slot T)) (heads : List Head) → IsLined side old heads → (key : ℕ) → home_of (seen (links_of side old) heads) key ≡ None → Updates old new key None
      → (k : ℕ) → link_in side (get new k) ≡ link_in side (get old k)
  gone_links side old new heads lined key none updates k = elim (cases_eq k key) [
    | inl same ↦ ap (λ (n : ℕ). link_in side (get new n)) same ∙ ap (link_in side) updates.changed ∙ sym (no_home_link side old heads lined key none) ∙ sym (ap (λ (n : ℕ). link_in side (get old n)) same)
    | inr apart ↦ ap (link_in side) (updates.others k apart)
  ]

  gone_homes : (old new : Slab (Slot T)) (key : ℕ) (was now : Chained) → Updates old new key None → Leaves key was now
      → ((k : ℕ) → is_some (get old k) ≡ true → is_some (home_of was k) ≡ true) → (k : ℕ) → is_some (get new k) ≡ true → is_some (home_of now k) ≡ true
  gone_homes old new key was now updates leaves homes k there = elim (cases_eq k key) [
    | inl same ↦ absurd (false≢true (sym (ap (λ (n : ℕ). is_some (get new n)) same ∙ ap (λ (o : Option (Slot T)). is_some o) updates.changed) ∙ there))
    | inr apart ↦ ap (λ (o : Option ℕ). is_some o) (leaves.homes k apart) ∙ homes k (sym (ap (λ (o : Option (Slot T)). is_some o) (updates.others k apart)) ∙ there)
  ]

  gone_few : (old new : Slab (Slot T)) (key : ℕ) → Updates old new key None → ((k : ℕ) → is_some (get old k) ≡ true → k + 1 < 2 ^ 32) → (k : ℕ) → is_some (get new k) ≡ true → k + 1 < 2 ^ 32
  gone_few old new key updates few k there = elim (cases_eq k key) [
    | inl same ↦ absurd (false≢true (sym (ap (λ (n : ℕ). is_some (get new n)) same ∙ ap (λ (o : Option (Slot T)). is_some o) updates.changed) ∙ there))
    | inr apart ↦ few k (sym (ap (λ (o : Option (Slot T)). is_some o) (updates.others k apart)) ∙ there)
  ]

  pub home_is : (side : Side) (slots : Slab (Slot T)) (heads : List Head) → IsLined side slots heads → (k : ℕ) → is_some (home_of (seen (links_of side slots) heads) k) ≡ true
      → (c : ℕ) × (home_of (seen (links_of side slots) heads) k ≡ Some c)
  home_is side slots heads lined k some =
      let left = leaving side slots heads lined k (link_at (links_of side slots) k) refl some in
      ((link_at (links_of side slots) k).home - 1, left.1)

  pub removed : (key : ℕ) (old first second third : Slab (Slot T)) (rows columns less_rows less_columns : List Head)
      → AreCrossed old rows columns → is_some (get old key) ≡ true
      → IsLined Row first less_rows → seen (links_of Row first) less_rows ≡ unlinked key (seen (links_of Row old) rows) → links_of Column first ≡ links_of Column old → values_of first ≡ values_of old
      → IsLined Column second less_columns → seen (links_of Column second) less_columns ≡ unlinked key (seen (links_of Column first) columns) → links_of Row second ≡ links_of Row first → values_of second ≡ values_of first
      → Updates second third key None → IsRemoved key old third rows columns less_rows less_columns
  removed key old first second third rows columns less_rows less_columns are there row_lined row_unlinked row_others row_values column_lined column_unlinked column_others column_values updates =
      let row_home = home_is Row old rows are.by_row key (home_some Row old rows are.by_row are.in_row key there) in
      let column_home = home_is Column old columns are.by_column key (home_some Column old columns are.by_column are.in_column key there) in
      let row_second = lined_links Row first second less_rows row_lined column_others in
      let row_seen : seen (links_of Row second) less_rows ≡ unlinked key (seen (links_of Row old) rows) = ap (λ (l : List Link). seen l less_rows) column_others ∙ row_unlinked in
      let column_seen : seen (links_of Column second) less_columns ≡ unlinked key (seen (links_of Column old) columns) = column_unlinked ∙ ap (λ (l : List Link). unlinked key (seen l columns)) row_others in
      let row_none = (unlinks row_home.0 key (seen (links_of Row old) rows) (seen (links_of Row second) less_rows) row_home.1 row_seen).home in
      let column_none = (unlinks column_home.0 key (seen (links_of Column old) columns) (seen (links_of Column second) less_columns) column_home.1 column_seen).home in
      let by_row = lined_same Row second third less_rows row_second (gone_links Row second third less_rows row_second key row_none updates) in
      let by_column = lined_same Column second third less_columns column_lined (gone_links Column second third less_columns column_lined key column_none updates) in
      let leaves_row = leaves_from row_home.0 key (seen (links_of Row old) rows) (seen (links_of Row second) less_rows) (seen (links_of Row third) less_rows) are.by_row.stored.sound row_home.1 row_seen by_row.1 in
      let leaves_column = leaves_from column_home.0 key (seen (links_of Column old) columns) (seen (links_of Column second) less_columns) (seen (links_of Column third) less_columns) are.by_column.stored.sound column_home.1 column_seen by_column.1 in
      let kept : (k : ℕ) → is_some (get second k) ≡ is_some (get old k) = there_kept old second (column_values ∙ row_values) in
      record {
        are = record {
          by_row = by_row.0;
          by_column = by_column.0;
          few = gone_few second third key updates (λ k stands. are.few k (sym (kept k) ∙ stands));
          in_row = positive_from Row third less_rows by_row.0
              (gone_homes second third key (seen (links_of Row old) rows) (seen (links_of Row third) less_rows) updates leaves_row (λ k stands. home_some Row old rows are.by_row are.in_row k (sym (kept k) ∙ stands)));
          in_column = positive_from Column third less_columns by_column.0
              (gone_homes second third key (seen (links_of Column old) columns) (seen (links_of Column third) less_columns) updates leaves_column (λ k stands. home_some Column old columns are.by_column are.in_column k (sym (kept k) ∙ stands)));
        };
        by_row = leaves_row;
        by_column = leaves_column;
      }

  -- ---- links as they were
  link_same : (side : Side) (old new : Slab (Slot T)) → links_of side new ≡ links_of side old → (k : ℕ) → (link_in side (get new k)).home ≡ (link_in side (get old k)).home
  link_same side old new same k = ap (λ (l : Link). l.home) (sym (link_read side new k) ∙ ap (λ (l : List Link). link_at l k) same ∙ link_read side old k)

  still_positive : (side : Side) (old new : Slab (Slot T)) → links_of side new ≡ links_of side old → ((k : ℕ) → is_some (get new k) ≡ is_some (get old k)) → ((k : ℕ) → is_some (get old k) ≡ true → 0 < (link_in side (get old k)).home)
      → (k : ℕ) → is_some (get new k) ≡ true → 0 < (link_in side (get new k)).home
  still_positive side old new same kept positive k there = omega (arith, positive k (sym (kept k) ∙ there), link_same side old new same k)

  pub crossed_kept : (old new : Slab (Slot T)) (rows columns : List Head) → AreCrossed old rows columns → links_of Row new ≡ links_of Row old → links_of Column new ≡ links_of Column old
      → ((k : ℕ) → is_some (get new k) ≡ is_some (get old k)) → AreCrossed new rows columns
  crossed_kept old new rows columns are by_row by_column kept = record {
    by_row = lined_links Row old new rows are.by_row by_row;
    by_column = lined_links Column old new columns are.by_column by_column;
    few = λ k there. are.few k (sym (kept k) ∙ there);
    in_row = still_positive Row old new by_row kept are.in_row;
    in_column = still_positive Column old new by_column kept are.in_column;
  }

  -- ---- an item moved
  -- the side on which an item moved, and the side on which it stays
  pub moved_side : (side : Side) (key c : ℕ) (old new : Slab (Slot T)) (heads after : List Head) → IsLined side old heads → ((k : ℕ) → is_some (get old k) ≡ true → 0 < (link_in side (get old k)).home)
      → is_some (get old key) ≡ true → c < length heads → IsLined side new after → seen (links_of side new) after ≡ pushed c key (unlinked key (seen (links_of side old) heads)) → values_of new ≡ values_of old
      → (k : ℕ) → is_some (get new k) ≡ true → 0 < (link_in side (get new k)).home
  moved_side side key c old new heads after lined positive there chain lined_new is values =
      let home = home_is side old heads lined key (home_some side old heads lined positive key there) in
      positive_from side new after lined_new (λ k stands. moved_homes key c (seen (links_of side old) heads) (seen (links_of side new) after) lined.stored.sound home.0 home.1 (omega (arith, chain, lined.stored.chains)) is k
      (home_some side old heads lined positive k (sym (there_kept old new values k) ∙ stands)))

  pub stays_side : (side : Side) (old new : Slab (Slot T)) → links_of side new ≡ links_of side old → values_of new ≡ values_of old → ((k : ℕ) → is_some (get old k) ≡ true → 0 < (link_in side (get old k)).home)
      → (k : ℕ) → is_some (get new k) ≡ true → 0 < (link_in side (get new k)).home
  stays_side side old new same values positive = still_positive side old new same (there_kept old new values) positive

  -- ---- one more chain
  pub lined_more : (side : Side) (slots : Slab (Slot T)) (heads : List Head) → IsLined side slots heads → length heads + 1 < 2 ^ 32
      → IsLined side slots (heads ++ no_head ∷ []) × (seen (links_of side slots) (heads ++ no_head ∷ []) ≡ one_chain_more (seen (links_of side slots) heads))
  lined_more side slots heads lined few =
      lined_from side slots (heads ++ no_head ∷ []) (links_of side slots) (one_chain_more (seen (links_of side slots) heads)) refl
      (stores_chain_more (links_of side slots) heads (seen (links_of side slots) heads) lined.stored) (omega (arith, length-append heads (no_head ∷ []), few))

  -- ---- another item in its place
  pub values_set : (slots : Slab (Slot T)) (key : ℕ) (slot : Slot T) → values_of (with_value slots key slot) ≡ with_value (values_of slots) key slot.item
  values_set slots key slot =
      ap (λ (l : List (Option T)). record { slots = l; vacant_key = slots.vacant_key; capacity = slots.capacity }) (map-set (option_map (λ (slot : Slot T). slot.item)) slots.slots key (Some slot))

  pub added_side : {A B : Type 0} (side : Side) (slots : Slab (Slot T)) (heads after : List Head) (r : Result A B) → IsLined side slots heads → OnOk r (after ≡ heads ++ no_head ∷ []) → OnOk r (length after < 2 ^ 32) → OnErr r (after ≡ heads)
      → IsLined side slots after × OnOk r (seen (links_of side slots) after ≡ one_chain_more (seen (links_of side slots) heads))
  added_side side slots heads after (Ok a) lined added few unchanged =
      let more = lined_more side slots heads lined (omega (arith, few, ap (λ (l : List Head). length l) added, length-append heads (no_head ∷ []))) in
      (subst (IsLined side slots) (sym added) more.0, ap (seen (links_of side slots)) added ∙ more.1)
  added_side side slots heads after (Err b) lined added few unchanged = (subst (IsLined side slots) (sym unchanged) lined, tt)

-- ---- more rows, more columns, more room
pub grown_lines : {T : Type 0} (old new : Crossed T) → new.items.slots ≡ old.items.slots → ((side : Side) → SameLine (lines side old) (lines side new)) → IsGrown old new
grown_lines old new slots same = record {
  items = slots;
  chains = λ side c. (same side).chains c;
  homes = λ side k. (same side).homes k;
  many = λ side. omega (arith, (same side).many);
}

pub grown_same : {T : Type 0} (old new : Crossed T) → new.items.slots ≡ old.items.slots → new.rows ≡ old.rows → new.columns ≡ old.columns → IsGrown old new
grown_same old new slots rows columns = grown_lines old new slots by where
  as_line : (was now : Chained) → now ≡ was → SameLine was now
  as_line was now is = record { chains = λ c. ap (λ (t : Chained). chain_of t c) is; homes = λ k. ap (λ (t : Chained). home_of t k) is; many = ap (λ (t : Chained). length t.chains) is }

  by : (side : Side) → SameLine (lines side old) (lines side new)
  by Row = as_line old.rows new.rows rows
  by Column = as_line old.columns new.columns columns

pub grown_then : {T : Type 0} (old mid new : Crossed T) → IsGrown old mid → IsGrown mid new → IsGrown old new
grown_then old mid new first second = record {
  items = second.items ∙ first.items;
  chains = λ side c. second.chains side c ∙ first.chains side c;
  homes = λ side k. second.homes side k ∙ first.homes side k;
  many = λ side. omega (arith, first.many side, second.many side);
}

-- one row or column more
pub grown_more : {T : Type 0} (side : Side) (old new : Crossed T) → lines side new ≡ one_chain_more (lines side old) → lines (other_side side) new ≡ lines (other_side side) old → new.items ≡ old.items → IsGrown old new
grown_more side old new more others items = record { items = ap (λ (s : Slab _). s.slots) items; chains = chain side more others; homes = home side more others; many = count side more others } where
  chain : (side : Side) → lines side new ≡ one_chain_more (lines side old) → lines (other_side side) new ≡ lines (other_side side) old → (s : Side) (c : ℕ) → chain_of (lines s new) c ≡ chain_of (lines s old) c
  chain Row more others Row c = ap (λ (t : Chained). chain_of t c) more ∙ chain_more-chain old.rows c
  chain Row more others Column c = ap (λ (t : Chained). chain_of t c) others
  chain Column more others Row c = ap (λ (t : Chained). chain_of t c) others
  chain Column more others Column c = ap (λ (t : Chained). chain_of t c) more ∙ chain_more-chain old.columns c

  home : (side : Side) → lines side new ≡ one_chain_more (lines side old) → lines (other_side side) new ≡ lines (other_side side) old → (s : Side) (k : ℕ) → home_of (lines s new) k ≡ home_of (lines s old) k
  home Row more others Row k = ap (λ (t : Chained). home_of t k) more ∙ chain_more-home old.rows k
  home Row more others Column k = ap (λ (t : Chained). home_of t k) others
  home Column more others Row k = ap (λ (t : Chained). home_of t k) others
  home Column more others Column k = ap (λ (t : Chained). home_of t k) more ∙ chain_more-home old.columns k

  count : (side : Side) → lines side new ≡ one_chain_more (lines side old) → lines (other_side side) new ≡ lines (other_side side) old → (s : Side) → length (lines s old).chains ≤ length (lines s new).chains
  count Row more others Row = omega (arith, ap (λ (t : Chained). length t.chains) more, chain_more-chains old.rows)
  count Row more others Column = omega (arith, ap (λ (t : Chained). length t.chains) others)
  count Column more others Row = omega (arith, ap (λ (t : Chained). length t.chains) others)
  count Column more others Column = omega (arith, ap (λ (t : Chained). length t.chains) more, chain_more-chains old.columns)

-- room is that of the items
pub room_of_items : {T : Type 0} (old new : Crossed T) → new.items ≡ old.items → has_room new ≡ has_room old
unfolding has_room
room_of_items old new same = ap (λ (s : Slab _). nat_lt (slab_len s) s.capacity && nat_lt s.vacant_key 0xFFFF_FFFF) same
