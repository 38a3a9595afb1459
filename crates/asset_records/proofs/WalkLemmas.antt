-- A walk along keys that moves some of their records to another column.
use Rattle.std.proofs.Common.{◌≡◌, ℕ, ◌+◌, ◌*◌, ◌<◌, ◌≤◌, ◌&&◌, ◌||◌, Bool, true, false, cond, eqb, List, [], ◌∷◌, ◌++◌, length, Option, Some, None, is_some, refl, sym, ap, subst, ◌∙◌, arith}
use Rattle.std.specs.Option.{option_map}
use Rattle.std.specs.List.{IsDistinct}
use Rattle.std.proofs.lemmas.Bool.{eqb-true, eqb-false, eq-eqb, ne_eqb, true≢false, or_left}
use Rattle.std.proofs.lemmas.List.{length-append, append-nil}
use Rattle.slab.specs.Slab.{Slab, get, slab_len, with_value}
use Rattle.asset_names.specs.declared.names.Txn.{Txn}
use Rattle.asset_names.proofs.Common.{some_of}
use Rattle.asset_chains.specs.Chained.{Chained, chain_of, home_of, first_of, behind, without, lists, pushed, unlinked}
use Rattle.asset_chains.specs.declared.side.Side.TheVariants.{Column}
use Rattle.asset_chains.specs.Crossed.{Crossed, has_room as has_slot, IsCrossed}
use Rattle.asset_chains.proofs.Laws.{pushes, unlinks, key_within, IsPushed, IsUnlinked}
use Rattle.asset_chains.proofs.KeyLemmas.{lists-append, distinct_parts, without_unlisted}
use Rattle.asset_chains.proofs.SoundLemmas.{listed_once}
use Rattle.asset_chains.proofs.Walks.{from_key, chains_without}
use Rattle.asset_records.specs.declared.records.Record.{Record}
use Rattle.asset_records.specs.Handed.{given, goes, HandedOne, AreHanded}
use Rattle.asset_records.proofs.DropLemmas.{count_kept}
use Rattle.asset_records.proofs.DropLemmas.{written_over, room_over}

-- ---- lists of keys
or_none : (a c : Bool) → (a || c) ≡ false → (a ≡ false) × (c ≡ false)
or_none true c h = absurd (true≢false h)
or_none false c h = (refl, h)

pub behind_split : (xs ys : List ℕ) (k : ℕ) → lists xs k ≡ false → behind k (xs ++ k ∷ ys) ≡ ys
behind_split [] ys k none = rw (eq-eqb k k refl) refl
behind_split (x ∷ xs) ys k none = let parts = or_none (eqb k x) (lists xs k) none in rw parts.0 (behind_split xs ys k parts.1)

pub without_split : (xs ys : List ℕ) (k : ℕ) → lists xs k ≡ false → lists ys k ≡ false → without k (xs ++ k ∷ ys) ≡ xs ++ ys
without_split [] ys k none later = rw (eq-eqb k k refl) (without_unlisted k ys later)
without_split (x ∷ xs) ys k none later = let parts = or_none (eqb k x) (lists xs k) none in rw parts.0 (ap (λ (l : List ℕ). x ∷ l) (without_split xs ys k parts.1 later))

pub append_assoc : (xs : List ℕ) (k : ℕ) (ys : List ℕ) → xs ++ k ∷ ys ≡ (xs ++ k ∷ []) ++ ys
append_assoc [] k ys = refl
append_assoc (x ∷ xs) k ys = ap (λ (l : List ℕ). x ∷ l) (append_assoc xs k ys)

-- a key stands once in a list that is cut at it
pub apart_before : (xs ys : List ℕ) (k : ℕ) → IsDistinct eqb (xs ++ k ∷ ys) → lists xs k ≡ false
apart_before xs ys k distinct = go (lists xs k) refl where
  go : (b : Bool) → lists xs k ≡ b → lists xs k ≡ false
  go true among = absurd (true≢false (sym (or_left (eqb k k) (lists ys k) (eq-eqb k k refl)) ∙ (distinct_parts xs (k ∷ ys) distinct).2 k among))
  go false none = none

pub apart_later : (xs ys : List ℕ) (k : ℕ) → IsDistinct eqb (xs ++ k ∷ ys) → lists ys k ≡ false
apart_later xs ys k distinct =
    let parts = distinct_parts (xs ++ k ∷ []) ys (subst (IsDistinct eqb) (append_assoc xs k ys) distinct) in
    parts.2 k (lists-append xs (k ∷ []) k ∙ at_end (lists xs k) (eqb k k) (eq-eqb k k refl)) where
      at_end : (a b : Bool) → b ≡ true → (a || (b || false)) ≡ true
      at_end true b h = refl
      at_end false true h = refl
      at_end false false h = h

-- ---- one record
-- the key is in the column `to`
module _ (old mid : Crossed Record) (key to : ℕ) (crossed : IsCrossed old) (within : to < length old.columns.chains) (there : is_some (get old.items key) ≡ true) (moved : mid.columns ≡ pushed to key (unlinked key old.columns)) where
  abbrev at : (c : ℕ) × (home_of old.columns key ≡ Some c)
  at = some_of (home_of old.columns key) (crossed.placed Column key ∙ there)

  less : IsUnlinked at.0 key old.columns (unlinked key old.columns)
  less = unlinks at.0 key old.columns (unlinked key old.columns) at.1 refl

  push : IsPushed to key (unlinked key old.columns) mid.columns
  push = pushes to key (unlinked key old.columns) mid.columns (omega (arith, within, less.same_chains)) (omega (arith, key_within key at.0 old.columns at.1, less.same_keys)) moved

  pub moved_many : length mid.columns.chains ≡ length old.columns.chains
  moved_many = push.same_chains ∙ less.same_chains

  pub moved_home : (k : ℕ) → home_of mid.columns k ≡ cond (eqb k key) (Some to) (home_of old.columns k)
  moved_home k = go (eqb k key) refl where
    go : (b : Bool) → eqb k key ≡ b → home_of mid.columns k ≡ cond b (Some to) (home_of old.columns k)
    go true e = ap (home_of mid.columns) (eqb-true k key e) ∙ push.home
    go false e = push.homes k (eqb-false k key e) ∙ less.homes k (eqb-false k key e)

  pub moved_chain : (c : ℕ) → (c ≡ to → ⊥) → chain_of mid.columns c ≡ without key (chain_of old.columns c)
  moved_chain c apart = push.chains c apart ∙ chains_without old.columns (unlinked key old.columns) key at.0 (crossed.sound Column) at.1 refl c

pub moved_one : (old mid new : Crossed Record) (key to : ℕ) (taker : Txn) (one : Record) → IsCrossed old → to < length old.columns.chains → get old.items key ≡ Some one
    → mid.columns ≡ pushed to key (unlinked key old.columns) → mid.rows ≡ old.rows → mid.items ≡ old.items
    → new.items ≡ with_value mid.items key (given taker one) → new.rows ≡ mid.rows → new.columns ≡ mid.columns → HandedOne key taker to old new
moved_one old mid new key to taker one crossed within there moved mid_rows mid_items over rows columns = record {
  rows = rows ∙ mid_rows;
  items = item;
  homes = λ k. ap (λ (table : Chained). home_of table k) columns ∙ moved_home old mid key to crossed within (ap is_some there) moved k;
  chains = λ c apart. ap (λ (table : Chained). chain_of table c) columns ∙ moved_chain old mid key to crossed within (ap is_some there) moved c apart;
  many = ap (λ (table : Chained). length table.chains) columns ∙ moved_many old mid key to crossed within (ap is_some there) moved;
  len = ap (λ (s : Slab Record). slab_len s) put ∙ count_kept old.items.slots key one (given taker one) there;
  room = room_over old new key one (given taker one) there put;
} where
  put : new.items ≡ with_value old.items key (given taker one)
  put = over ∙ ap (λ (s : Slab Record). with_value s key (given taker one)) mid_items

  item : (k : ℕ) → get new.items k ≡ cond (eqb k key) (option_map (given taker) (get old.items k)) (get old.items k)
  item k = ap (λ (s : Slab Record). get s k) put ∙ written_over old.items key one (given taker one) there k ∙ go (eqb k key) refl where
    go : (b : Bool) → eqb k key ≡ b → cond b (Some (given taker one)) (get old.items k) ≡ cond b (option_map (given taker) (get old.items k)) (get old.items k)
    go true e = sym (ap (option_map (given taker)) (ap (get old.items) (eqb-true k key e) ∙ there))
    go false e = refl

-- ---- which records go
-- with one key more
goes_on : (keys : List ℕ) (test : ℕ → Bool) (key k : ℕ) → (k ≡ key → ⊥) → goes (keys ++ key ∷ []) test k ≡ goes keys test k
unfolding goes
goes_on keys test key k apart = ap (λ (b : Bool). b && test k) (lists-append keys (key ∷ []) k ∙ ap (λ (b : Bool). lists keys k || (b || false)) (ne_eqb k key apart) ∙ or_no (lists keys k)) where
  or_no : (a : Bool) → (a || (false || false)) ≡ a
  or_no true = refl
  or_no false = refl

goes_here : (keys : List ℕ) (test : ℕ → Bool) (key : ℕ) → goes (keys ++ key ∷ []) test key ≡ test key
unfolding goes
goes_here keys test key = ap (λ (b : Bool). b && test key) (lists-append keys (key ∷ []) key ∙ at_end (lists keys key) (eqb key key) (eq-eqb key key refl)) where
  at_end : (a b : Bool) → b ≡ true → (a || (b || false)) ≡ true
  at_end true b h = refl
  at_end false true h = refl
  at_end false false h = h

goes_not : (keys : List ℕ) (test : ℕ → Bool) (key : ℕ) → lists keys key ≡ false → goes keys test key ≡ false
unfolding goes
goes_not keys test key none = ap (λ (b : Bool). b && test key) none

goes_never : (keys : List ℕ) (test : ℕ → Bool) (key : ℕ) → test key ≡ false → goes keys test key ≡ false
unfolding goes
goes_never keys test key left = ap (λ (b : Bool). lists keys key && b) left ∙ and_no (lists keys key) where
  and_no : (a : Bool) → (a && false) ≡ false
  and_no true = refl
  and_no false = refl

-- what is handed with one key more: what was handed, and the record at the key
more_handed : {A : Type 0} (keys : List ℕ) (test : ℕ → Bool) (key : ℕ) (was now new over : ℕ → A) → lists keys key ≡ false → test key ≡ true
    → ((k : ℕ) → now k ≡ cond (goes keys test k) (over k) (was k)) → ((k : ℕ) → (k ≡ key → ⊥) → new k ≡ now k) → (now key ≡ was key → new key ≡ over key)
    → (k : ℕ) → new k ≡ cond (goes (keys ++ key ∷ []) test k) (over k) (was k)
more_handed keys test key was now new over none passes before others here k = go (eqb k key) refl where
  go : (b : Bool) → eqb k key ≡ b → new k ≡ cond (goes (keys ++ key ∷ []) test k) (over k) (was k)
  go true e =
      rw (eqb-true k key e) (here (before key ∙ ap (λ (b : Bool). cond b (over key) (was key)) (goes_not keys test key none)) ∙ sym (ap (λ (b : Bool). cond b (over key) (was key)) (goes_here keys test key ∙ passes)))
  go false e = others k (eqb-false k key e) ∙ before k ∙ sym (ap (λ (b : Bool). cond b (over k) (was k)) (goes_on keys test key k (eqb-false k key e)))

less_handed : {A : Type 0} (keys : List ℕ) (test : ℕ → Bool) (key : ℕ) (was now over : ℕ → A) → test key ≡ false
    → ((k : ℕ) → now k ≡ cond (goes keys test k) (over k) (was k)) → (k : ℕ) → now k ≡ cond (goes (keys ++ key ∷ []) test k) (over k) (was k)
less_handed keys test key was now over left before k = go (eqb k key) refl where
  go : (b : Bool) → eqb k key ≡ b → now k ≡ cond (goes (keys ++ key ∷ []) test k) (over k) (was k)
  go true e =
      rw (eqb-true k key e) (before key ∙ ap (λ (b : Bool). cond b (over key) (was key)) (goes_never keys test key left ∙ sym (goes_here keys test key ∙ left)))
  go false e = before k ∙ sym (ap (λ (b : Bool). cond b (over k) (was k)) (goes_on keys test key k (eqb-false k key e)))

module _ (keys : List ℕ) (test : ℕ → Bool) (from to : ℕ) (taker : Txn) (old now new : Crossed Record) (key : ℕ) (hands : AreHanded keys test from to taker old now) where
  -- one more record goes over
  pub hands_more : lists keys key ≡ false → test key ≡ true → IsCrossed now → home_of now.columns key ≡ Some from → HandedOne key taker to now new → AreHanded (keys ++ key ∷ []) test from to taker old new
  hands_more none passes crossed home one = record {
    rows = one.rows ∙ hands.rows;
    items = more_handed keys test key (get old.items) (get now.items) (get new.items) (λ k. option_map (given taker) (get old.items k)) none passes hands.items
        (λ k other. one.items k ∙ ap (λ (b : Bool). cond b (option_map (given taker) (get now.items k)) (get now.items k)) (ne_eqb k key other))
        (λ same. one.items key ∙ ap (λ (b : Bool). cond b (option_map (given taker) (get now.items key)) (get now.items key)) (eq-eqb key key refl) ∙ ap (option_map (given taker)) same);
    homes = more_handed keys test key (home_of old.columns) (home_of now.columns) (home_of new.columns) (λ k. Some to) none passes hands.homes
        (λ k other. one.homes k ∙ ap (λ (b : Bool). cond b (Some to) (home_of now.columns k)) (ne_eqb k key other))
        (λ same. one.homes key ∙ ap (λ (b : Bool). cond b (Some to) (home_of now.columns key)) (eq-eqb key key refl));
    chains = λ c first second. one.chains c second ∙ without_unlisted key (chain_of now.columns c) (listed_once now.columns (crossed.sound Column) key from c home first) ∙ hands.chains c first second;
    many = one.many ∙ hands.many;
    len = one.len ∙ hands.len;
    room = one.room ∙ hands.room;
  }

  -- or it stays
  pub hands_less : test key ≡ false → new ≡ now → AreHanded (keys ++ key ∷ []) test from to taker old new
  hands_less left same = record {
    rows = ap (λ (table : Crossed Record). table.rows) same ∙ hands.rows;
    items = λ k. ap (λ (table : Crossed Record). get table.items k) same ∙ less_handed keys test key (get old.items) (get now.items) (λ k. option_map (given taker) (get old.items k)) left hands.items k;
    homes = λ k. ap (λ (table : Crossed Record). home_of table.columns k) same ∙ less_handed keys test key (home_of old.columns) (home_of now.columns) (λ k. Some to) left hands.homes k;
    chains = λ c first second. ap (λ (table : Crossed Record). chain_of table.columns c) same ∙ hands.chains c first second;
    many = ap (λ (table : Crossed Record). length table.columns.chains) same ∙ hands.many;
    len = ap (λ (table : Crossed Record). slab_len table.items) same ∙ hands.len;
    room = ap (λ (table : Crossed Record). has_slot table) same ∙ hands.room;
  }

-- a key whose record has not gone is where it was
home_as_was : (keys : List ℕ) (test : ℕ → Bool) (from to : ℕ) (taker : Txn) (old now : Crossed Record) (key : ℕ) → AreHanded keys test from to taker old now → lists keys key ≡ false → home_of now.columns key ≡ home_of old.columns key
home_as_was keys test from to taker old now key hands none = hands.homes key ∙ ap (λ (b : Bool). cond b (Some to) (home_of old.columns key)) (goes_not keys test key none)

pub hands_nothing : (test : ℕ → Bool) (from to : ℕ) (taker : Txn) (old : Crossed Record) → AreHanded [] test from to taker old old
unfolding goes
hands_nothing test from to taker old = record { rows = refl; items = λ k. refl; homes = λ k. refl; chains = λ c first second. refl; many = refl; len = refl; room = refl }

-- ---- a walk along a list of keys
-- the keys that are left begin with the next one
first_is : (keys : List ℕ) (key : ℕ) → Some key ≡ first_of keys → (later : List ℕ) × (keys ≡ key ∷ later)
first_is [] key at = cc at
first_is (x ∷ later) key at = let same : key ≡ x = cc at in (later, ap (λ (k : ℕ). k ∷ later) (sym same))

-- from the first of those that are left on there are all of them
from_left : (xs ys : List ℕ) → IsDistinct eqb (xs ++ ys) → from_key (first_of ys) (xs ++ ys) ≡ ys
from_left xs [] distinct = refl
from_left xs (y ∷ ys) distinct = ap (λ (l : List ℕ). y ∷ l) (behind_split xs ys y (apart_before xs ys y distinct))

pub listed_middle : (xs : List ℕ) (key : ℕ) (ys : List ℕ) → lists (xs ++ key ∷ ys) key ≡ true
listed_middle xs key ys = lists-append xs (key ∷ ys) key ∙ at_middle (lists xs key) (eqb key key) (lists ys key) (eq-eqb key key refl) where
  at_middle : (a b c : Bool) → b ≡ true → (a || (b || c)) ≡ true
  at_middle true b c h = refl
  at_middle false true c h = refl
  at_middle false false c h = absurd (true≢false (sym h))

no_first : (keys : List ℕ) → None ≡ first_of keys → keys ≡ []
no_first [] none = refl
no_first (k ∷ keys) none = cc none

-- the keys of the walk that were passed, and those that are left
pub record IsWalked (keys : List ℕ) (test : ℕ → Bool) (from to : ℕ) (taker : Txn) (old now : Crossed Record) (next : Option ℕ) (visits : ℕ) : Type 0 where
  pub passed : List ℕ
  pub left : List ℕ
  pub split : keys ≡ passed ++ left
  pub at : next ≡ first_of left
  pub hands : AreHanded passed test from to taker old now
  pub least : length passed ≤ visits
  pub few : visits ≤ 4 * length passed

abbrev pub walk_starts : (keys : List ℕ) (test : ℕ → Bool) (from to : ℕ) (taker : Txn) (old : Crossed Record) (next : Option ℕ) → next ≡ first_of keys → IsWalked keys test from to taker old old next 0
walk_starts keys test from to taker old next at = record { passed = []; left = keys; split = refl; at = at; hands = hands_nothing test from to taker old; least = omega arith; few = omega arith }

module _ (keys : List ℕ) (test : ℕ → Bool) (from to : ℕ) (taker : Txn) (old now : Crossed Record) (key visits : ℕ) (is : IsWalked keys test from to taker old now (Some key) visits) (distinct : IsDistinct eqb keys) where
  -- the keys after this one
  pub later : (later : List ℕ) × (is.left ≡ key ∷ later)
  later = first_is is.left key is.at

  pub split_here : keys ≡ is.passed ++ key ∷ later.0
  split_here = is.split ∙ ap (λ (l : List ℕ). is.passed ++ l) later.1

  pub walk_listed : lists keys key ≡ true
  walk_listed = ap (λ (l : List ℕ). lists l key) split_here ∙ listed_middle is.passed key later.0

  pub not_passed : lists is.passed key ≡ false
  not_passed = apart_before is.passed later.0 key (subst (IsDistinct eqb) split_here distinct)

  -- a key whose record has not been passed is where it was
  pub walk_home : home_of now.columns key ≡ home_of old.columns key
  walk_home = home_as_was is.passed test from to taker old now key is.hands not_passed

  -- the next key in the list
  pub walk_next : first_of (behind key keys) ≡ first_of later.0
  walk_next = ap (λ (l : List ℕ). first_of (behind key l)) split_here ∙ ap first_of (behind_split is.passed later.0 key not_passed)

  -- the keys that were passed are no more than all
  pub walk_within : length is.passed ≤ length keys
  walk_within = omega (arith, ap length is.split, length-append is.passed is.left)

  pub walk_smaller : (next : Option ℕ) → next ≡ first_of later.0 → length (from_key next keys) < length (from_key (Some key) keys)
  walk_smaller next at = omega (arith, ap length after, ap length before) where
    after : from_key next keys ≡ later.0
    after =
        (λ i. from_key (at i) (split_here i))
        ∙ ap (from_key (first_of later.0)) (append_assoc is.passed key later.0)
        ∙ from_left (is.passed ++ key ∷ []) later.0 (subst (IsDistinct eqb) (split_here ∙ append_assoc is.passed key later.0) distinct)

    before : from_key (Some key) keys ≡ key ∷ later.0
    before = ap (from_key (Some key)) split_here ∙ from_left is.passed (key ∷ later.0) (subst (IsDistinct eqb) split_here distinct)

  module _ (new : Crossed Record) (next : Option ℕ) (more : ℕ) (at : next ≡ first_of later.0) (least : visits + 1 ≤ more) (few : more ≤ visits + 4) where
    abbrev pub with_hands : AreHanded (is.passed ++ key ∷ []) test from to taker old new → IsWalked keys test from to taker old new next more
    with_hands hands = record {
      passed = is.passed ++ key ∷ [];
      left = later.0;
      split = split_here ∙ append_assoc is.passed key later.0;
      at = at;
      hands = hands;
      least = omega (arith, least, is.least, length-append is.passed (key ∷ []));
      few = omega (arith, few, is.few, length-append is.passed (key ∷ []));
    }

    abbrev pub walk_moves : test key ≡ true → IsCrossed now → home_of now.columns key ≡ Some from → HandedOne key taker to now new → IsWalked keys test from to taker old new next more
    walk_moves passes crossed home one = with_hands (hands_more is.passed test from to taker old now new key is.hands not_passed passes crossed home one)

    abbrev pub walk_stays : test key ≡ false → new ≡ now → IsWalked keys test from to taker old new next more
    walk_stays left same = with_hands (hands_less is.passed test from to taker old now new key is.hands left same)

module _ (keys : List ℕ) (test : ℕ → Bool) (from to : ℕ) (taker : Txn) (old now : Crossed Record) (visits : ℕ) (is : IsWalked keys test from to taker old now None visits) where
  all : is.passed ≡ keys
  all = sym (is.split ∙ ap (λ (l : List ℕ). is.passed ++ l) (no_first is.left is.at) ∙ append-nil is.passed)

  pub walk_ends : AreHanded keys test from to taker old now
  walk_ends = subst (λ (l : List ℕ). AreHanded l test from to taker old now) all is.hands

  pub walk_least : length keys ≤ visits
  walk_least = subst (λ (l : List ℕ). length l ≤ visits) all is.least

  pub walk_visits : visits ≤ 4 * length keys
  walk_visits = subst (λ (l : List ℕ). visits ≤ 4 * length l) all is.few
