-- The lists of records after one is taken back, dropped or put in the place of another; and who has none.
use Rattle.std.proofs.Common.{◌≡◌, ℕ, zero, suc, ◌*◌, ◌<◌, ◌≤◌, Bool, true, false, cond, eqb, ◌||◌, List, [], ◌∷◌, ◌++◌, map, Option, Some, None, is_some, length, refl, sym, ap, subst, ◌∙◌, arith, inl, inr}
use Rattle.std.specs.Prelude.{ℤ, unwrap_or}
use Rattle.std.specs.Option.{option_map}
use Rattle.std.specs.List.{IsDistinct, list_any, count_by}
use Rattle.std.proofs.lemmas.Bool.{eqb-true, eqb-false, eq-eqb, ne_eqb, true≢false, cases_Bool}
use Rattle.std.proofs.lemmas.List.{length-map}
use Rattle.std.proofs.lemmas.List.Sums.{sum_by-cons}
use Rattle.slab.specs.Slab.{Slab, get}
use Rattle.asset_names.specs.declared.names.Txn.{Txn}
use Rattle.asset_names.proofs.Common.{one_txn, some_of}
use Rattle.asset_chains.specs.Chained.{Chained, chain_of, home_of, first_of, last_of, lists, without, ahead, behind, IsConsistent}
use Rattle.asset_chains.specs.declared.side.Side.TheVariants.{Row, Column}
use Rattle.asset_chains.specs.Crossed.{Crossed, IsCrossed}
use Rattle.asset_chains.proofs.Laws.{chain_at_key, chain_without_key}
use Rattle.asset_chains.proofs.SoundLemmas.{listed_once}
use Rattle.asset_chains.proofs.KeyLemmas.{lists-append, distinct_head, distinct_tail, distinct_parts, listed_apart, without_unlisted}
use Rattle.asset_records.specs.declared.mending.Mend.{Mend}
use Rattle.asset_records.specs.declared.records.Record.{Record}
use Rattle.asset_records.specs.declared.records.Record.TheVariants.{Write, Add, Lasting}
use Rattle.asset_seats.specs.declared.sitter.Sitter.{Sitter}
use Rattle.asset_seats.specs.Seated.{Seated, seat, HasSeat}
use Rattle.asset_records.specs.Listed.{on, no_record, record_at, at_keys, is_of, is_owned, owner_of, owner_at, somebody, owner_passes, settled_on, settled_many, IsTied, ChangesOn, TakesBack, Settles, HasNone}
use Rattle.asset_records.specs.Mended.{is_write, has_write, mended_record, mended_in, mend_of}
use Rattle.asset_records.specs.Dropped.{first_write, mended_at, left_to_mend}
use Rattle.asset_records.proofs.ListedLemmas.{on_chain, keys_append, keys_same, any_key, none_passes, has_record, has_owned, home_of_owner, owned_is}
use Rattle.asset_records.proofs.DropLemmas.{read_some}

-- the record at a key, by what the slab has
pub read_as : (a b : Slab Record) (k : ℕ) → get a k ≡ get b k → record_at a k ≡ record_at b k
unfolding record_at
read_as a b k same = ap (λ (o : Option Record). unwrap_or o no_record) same

or_true : (b c : Bool) → c ≡ true → (b || c) ≡ true
or_true true c e = refl
or_true false c e = e

-- ---- a record of an object changes or goes, and maybe another one behind it changes
module _ (records fewer : Slab Record) (table : Chained) (k i : ℕ) (gone : Record) (next : Option ℕ) (sound : IsConsistent table) (home : home_of table k ≡ Some i) (there : get records k ≡ Some gone)
    (inside : (n : ℕ) → next ≡ Some n → lists (behind k (chain_of table i)) n ≡ true)
    (stays : (l : ℕ) → (l ≡ k → ⊥) → ((n : ℕ) → next ≡ Some n → l ≡ n → ⊥) → get fewer l ≡ get records l) where
  abbrev front : List ℕ
  front = ahead k (chain_of table i)

  abbrev back : List ℕ
  back = behind k (chain_of table i)

  cut : chain_of table i ≡ front ++ k ∷ back
  cut = chain_at_key k i table sound home

  parts : IsDistinct eqb front × IsDistinct eqb (k ∷ back) × ((j : ℕ) → lists front j ≡ true → lists (k ∷ back) j ≡ false)
  parts = distinct_parts front (k ∷ back) (subst (IsDistinct eqb) cut (sound.once i))

  pub row_stood : on (map (at_keys records) table.chains) i ≡ at_keys records (ahead k (chain_of table i)) ++ gone ∷ at_keys records (behind k (chain_of table i))
  unfolding at_keys
  row_stood = on_chain records table i ∙ ap (at_keys records) cut ∙ keys_append records front (k ∷ back) ∙ ap (λ (one : Record). at_keys records front ++ one ∷ at_keys records back) (read_some records k gone there)

  -- the records before it stay
  pub front_same : at_keys fewer (ahead k (chain_of table i)) ≡ at_keys records (ahead k (chain_of table i))
  front_same =
      keys_same records fewer front (λ l among. read_as fewer records l (stays l
      (λ same. true≢false (sym (ap (λ (b : Bool). b || lists back l) (eq-eqb l k same)) ∙ parts.2 l among))
      (λ n first same. true≢false (sym (or_true (eqb l k) (lists back l) (ap (lists back) same ∙ inside n first)) ∙ parts.2 l among))))

  -- and so do those behind it, unless one of them changes
  pub back_same : next ≡ None → at_keys fewer (behind k (chain_of table i)) ≡ at_keys records (behind k (chain_of table i))
  back_same none =
      keys_same records fewer back (λ l among. read_as fewer records l (stays l (listed_apart back l k among (distinct_head k back parts.1)) (λ n first same. absurd_none n (sym none ∙ first)))) where
        absurd_none : (n : ℕ) → None ≡ Some n → ⊥
        absurd_none n e = cc e

  listed_later : (l : ℕ) → lists back l ≡ true → lists (chain_of table i) l ≡ true
  listed_later l among = ap (λ (keys : List ℕ). lists keys l) cut ∙ lists-append front (k ∷ back) l ∙ or_true (lists front l) (lists (k ∷ back) l) (or_true (eqb l k) (lists back l) among)

  other_same : (j : ℕ) → (j ≡ i → ⊥) → at_keys fewer (chain_of table j) ≡ at_keys records (chain_of table j)
  other_same j apart =
      let absent = listed_once table sound k i j home apart in
      keys_same records fewer (chain_of table j) (λ l among. read_as fewer records l (stays l
      (listed_apart (chain_of table j) l k among absent)
      (λ n first same. apart (same_home l n among (listed_later n (inside n first)) same)))) where
        same_home : (l n : ℕ) → lists (chain_of table j) l ≡ true → lists (chain_of table i) n ≡ true → l ≡ n → j ≡ i
        same_home l n mine its same = let homes : Some j ≡ Some i = sym (sound.at_home j l mine) ∙ ap (home_of table) same ∙ sound.at_home i n its in cc homes

  changes_from : (less : Chained) (news : List Record) → at_keys fewer (chain_of less i) ≡ news → ((j : ℕ) → (j ≡ i → ⊥) → chain_of less j ≡ chain_of table j) → length less.chains ≡ length table.chains
      → ChangesOn i news (map (at_keys records) table.chains) (map (at_keys fewer) less.chains)
  unfolding ChangesOn
  changes_from less news here others many = (same_many, changes) where
    same_many : length (map (at_keys fewer) less.chains) ≡ length (map (at_keys records) table.chains)
    same_many = length-map less.chains (at_keys fewer) ∙ many ∙ sym (length-map table.chains (at_keys records))

    changes : (j : ℕ) → on (map (at_keys fewer) less.chains) j ≡ cond (eqb i j) news (on (map (at_keys records) table.chains) j)
    changes j = on_chain fewer less j ∙ go (eqb i j) refl where
      go : (b : Bool) → eqb i j ≡ b → at_keys fewer (chain_of less j) ≡ cond b news (on (map (at_keys records) table.chains) j)
      go true e = ap (λ (n : ℕ). at_keys fewer (chain_of less n)) (sym (eqb-true i j e)) ∙ here
      go false e =
          let apart : j ≡ i → ⊥ = λ same. eqb-false i j e (sym same) in
          ap (at_keys fewer) (others j apart) ∙ other_same j apart ∙ sym (on_chain records table j)

  -- the record at the key is gone
  pub without_changes : (less : Chained) (later : List Record) → at_keys fewer (behind k (chain_of table i)) ≡ later → ((j : ℕ) → chain_of less j ≡ without k (chain_of table j)) → length less.chains ≡ length table.chains
      → ChangesOn i (at_keys records (ahead k (chain_of table i)) ++ later) (map (at_keys records) table.chains) (map (at_keys fewer) less.chains)
  without_changes less later behind_it chains many = changes_from less (at_keys records front ++ later)
      (ap (at_keys fewer) (chains i ∙ chain_without_key k i table sound home) ∙ keys_append fewer front back ∙ (λ m. front_same m ++ behind_it m))
      (λ j apart. chains j ∙ without_unlisted k (chain_of table j) (listed_once table sound k i j home apart)) many

  -- another record is in its place
  pub instead_changes : (instead : Record) → next ≡ None → get fewer k ≡ Some instead
      → ChangesOn i (at_keys records (ahead k (chain_of table i)) ++ instead ∷ at_keys records (behind k (chain_of table i))) (map (at_keys records) table.chains) (map (at_keys fewer) table.chains)
  unfolding at_keys
  instead_changes instead none put = changes_from table (at_keys records front ++ instead ∷ at_keys records back)
      (ap (at_keys fewer) cut ∙ keys_append fewer front (k ∷ back) ∙ (λ m. front_same m ++ read_some fewer k instead put m ∷ back_same none m))
      (λ j apart. refl) refl

-- ---- a record is taken back
mended_first : (mend : Mend) (one : Record) (later : List Record) → is_write one ≡ true → mended_in mend (one ∷ later) ≡ mended_record mend one ∷ later
unfolding mended_in mended_record is_write
mended_first mend (Write owner before) later is = refl
mended_first mend (Add owner amount) later is = absurd (true≢false (sym is))
mended_first mend (Lasting amount) later is = absurd (true≢false (sym is))

mended_later : (mend : Mend) (one : Record) (later : List Record) → is_write one ≡ false → mended_in mend (one ∷ later) ≡ one ∷ mended_in mend later
unfolding mended_in is_write
mended_later mend (Write owner before) later is = absurd (true≢false is)
mended_later mend (Add owner amount) later is = refl
mended_later mend (Lasting amount) later is = refl

pub write_listed : (records : Slab Record) (keys : List ℕ) (n : ℕ) → first_write records keys ≡ Some n → lists keys n ≡ true
write_listed records [] n e = cc e
write_listed records (x ∷ keys) n e = go (write_listed records keys n) (is_write (record_at records x)) e where
  go : (first_write records keys ≡ Some n → lists keys n ≡ true) → (b : Bool) → cond b (Some x) (first_write records keys) ≡ Some n → lists (x ∷ keys) n ≡ true
  go later true is = let same : x ≡ n = cc is in ap (λ (b : Bool). b || lists keys n) (eq-eqb n x (sym same))
  go later false is = or_true (eqb n x) (lists keys n) (later is)

-- whether there is a write
pub write_there : (records : Slab Record) (keys : List ℕ) → has_write (at_keys records keys) ≡ is_some (first_write records keys)
unfolding has_write at_keys
write_there records [] = refl
write_there records (x ∷ keys) = go (is_write (record_at records x)) (write_there records keys) where
  go : (b : Bool) → list_any is_write (map (record_at records) keys) ≡ is_some (first_write records keys) → (b || list_any is_write (map (record_at records) keys)) ≡ is_some (cond b (Some x) (first_write records keys))
  go true ih = refl
  go false ih = ih

pub left_is : (mend : Mend) (next : Option ℕ) → left_to_mend next mend ≡ cond (is_some next) None (Some mend)
unfolding left_to_mend
left_is mend None = refl
left_is mend (Some n) = refl

module _ (records fewer : Slab Record) (k : ℕ) (mend : Mend) where
  pub back_mended : (keys : List ℕ) → IsDistinct eqb keys → ((l : ℕ) → lists keys l ≡ true → l ≡ k → ⊥)
      → ((l : ℕ) → (l ≡ k → ⊥) → get fewer l ≡ mended_at records (first_write records keys) mend l)
      → at_keys fewer keys ≡ mended_in mend (at_keys records keys)
  unfolding at_keys mended_in mended_at record_at mended_record no_record
  back_mended [] distinct apart mends = refl
  back_mended (n ∷ keys) distinct apart mends = elim (cases_Bool (is_write (record_at records n))) [
    | inl is ↦ wrote is (ap (λ (b : Bool). cond b (Some n) (first_write records keys)) is)
    | inr other ↦ added other (ap (λ (b : Bool). cond b (Some n) (first_write records keys)) other) (λ first. back_mended keys (distinct_tail n keys distinct) later_apart (λ l off. mends l off ∙ ap (λ (o : Option ℕ). mended_at records o mend l) first))
  ] where
    n_apart : n ≡ k → ⊥
    n_apart = apart n (ap (λ (b : Bool). b || lists keys n) (eq-eqb n n refl))

    later_apart : (l : ℕ) → lists keys l ≡ true → l ≡ k → ⊥
    later_apart l among = apart l (or_true (eqb l n) (lists keys l) among)

    new : lists keys n ≡ false
    new = distinct_head n keys distinct

    -- the key is that of a write
    wrote : is_write (record_at records n) ≡ true → first_write records (n ∷ keys) ≡ Some n → map (record_at fewer) (n ∷ keys) ≡ mended_in mend (map (record_at records) (n ∷ keys))
    wrote is first = (λ m. here m ∷ rest m) ∙ sym (mended_first mend (record_at records n) (map (record_at records) keys) is) where
      mends_n : get fewer n ≡ option_map (mended_record mend) (get records n)
      mends_n = mends n n_apart ∙ ap (λ (o : Option ℕ). mended_at records o mend n) first ∙ ap (λ (b : Bool). cond b (option_map (mended_record mend) (get records n)) (get records n)) (eq-eqb n n refl)

      held : (o : Option Record) → get records n ≡ o → unwrap_or (option_map (mended_record mend) o) no_record ≡ mended_record mend (unwrap_or o no_record)
      held None e = refl
      held (Some one) e = refl

      here : record_at fewer n ≡ mended_record mend (record_at records n)
      here = ap (λ (o : Option Record). unwrap_or o no_record) mends_n ∙ held (get records n) refl

      rest : map (record_at fewer) keys ≡ map (record_at records) keys
      rest = keys_same records fewer keys (λ l among. read_as fewer records l (mends l (later_apart l among) ∙ ap (λ (o : Option ℕ). mended_at records o mend l) first
          ∙ ap (λ (b : Bool). cond b (option_map (mended_record mend) (get records l)) (get records l)) (ne_eqb l n (listed_apart keys l n among new))))

    -- or it is not
    added : is_write (record_at records n) ≡ false → first_write records (n ∷ keys) ≡ first_write records keys
        → (first_write records (n ∷ keys) ≡ first_write records keys → map (record_at fewer) keys ≡ mended_in mend (map (record_at records) keys)) → map (record_at fewer) (n ∷ keys) ≡ mended_in mend (map (record_at records) (n ∷ keys))
    added other first later =
        (λ m. here m ∷ later first m)
        ∙ sym (mended_later mend (record_at records n) (map (record_at records) keys) other) where
          unmended : (o : Option ℕ) → first_write records keys ≡ o → mended_at records o mend n ≡ get records n
          unmended None e = refl
          unmended (Some m) e =
              ap (λ (b : Bool). cond b (option_map (mended_record mend) (get records n)) (get records n)) (ne_eqb n m (λ same. true≢false (sym (write_listed records keys m e) ∙ ap (lists keys) (sym same) ∙ new)))

          here : record_at fewer n ≡ record_at records n
          here = read_as fewer records n (mends n n_apart ∙ ap (λ (o : Option ℕ). mended_at records o mend n) first ∙ unmended (first_write records keys) refl)

-- the lists after the record of t at k is taken back
pub taken_back : (records later fewer : Slab Record) (table less : Chained) (t k i : ℕ) (gone : Record) (next : Option ℕ) (mend : Mend) (restored : Option Mend) → IsConsistent table → home_of table k ≡ Some i → get records k ≡ Some gone → is_of t gone ≡ true
    → next ≡ first_write records (behind k (chain_of table i)) → mend ≡ mend_of (record_at records k) (at_keys records (behind k (chain_of table i)))
    → ((j : ℕ) → get later j ≡ mended_at records next mend j) → ((j : ℕ) → get fewer j ≡ cond (eqb j k) None (get later j))
    → ((j : ℕ) → chain_of less j ≡ without k (chain_of table j)) → length less.chains ≡ length table.chains
    → restored ≡ left_to_mend next mend
    → TakesBack t i restored (map (at_keys records) table.chains) (map (at_keys fewer) less.chains)
unfolding mended_at
taken_back records later fewer table less t k i gone next mend restored sound home there whose over mends_by mends drops chains many left = record {
  older = at_keys records (ahead k (chain_of table i));
  gone = gone;
  later = at_keys records (behind k (chain_of table i));
  stood = row_stood records fewer table k i gone next sound home there inside stays;
  owner = whose;
  restores = left ∙ left_is mend next ∙ (λ m. cond (is_some (over m)) None (Some (mend_is m))) ∙ sym (ap (λ (b : Bool). cond b None (Some (mend_of gone (at_keys records (behind k (chain_of table i)))))) (write_there records (behind k (chain_of table i))));
  changes = without_changes records fewer table k i gone next sound home there inside stays less (mended_in (mend_of gone (at_keys records (behind k (chain_of table i)))) (at_keys records (behind k (chain_of table i)))) behind_it chains many;
} where
  mend_is : mend ≡ mend_of gone (at_keys records (behind k (chain_of table i)))
  mend_is = mends_by ∙ ap (λ (one : Record). mend_of one (at_keys records (behind k (chain_of table i)))) (read_some records k gone there)

  inside : (n : ℕ) → next ≡ Some n → lists (behind k (chain_of table i)) n ≡ true
  inside n is = write_listed records (behind k (chain_of table i)) n (sym over ∙ is)

  moves : (l : ℕ) → (l ≡ k → ⊥) → get fewer l ≡ mended_at records next mend l
  moves l off = drops l ∙ ap (λ (b : Bool). cond b None (get later l)) (ne_eqb l k off) ∙ mends l

  stays : (l : ℕ) → (l ≡ k → ⊥) → ((n : ℕ) → next ≡ Some n → l ≡ n → ⊥) → get fewer l ≡ get records l
  stays l off differ = moves l off ∙ by next refl where
    by : (o : Option ℕ) → next ≡ o → mended_at records o mend l ≡ get records l
    by None e = refl
    by (Some n) e = ap (λ (b : Bool). cond b (option_map (mended_record mend) (get records l)) (get records l)) (ne_eqb l n (differ n e))

  distinct : IsDistinct eqb (k ∷ behind k (chain_of table i))
  distinct = (distinct_parts (ahead k (chain_of table i)) (k ∷ behind k (chain_of table i)) (subst (IsDistinct eqb) (chain_at_key k i table sound home) (sound.once i))).1

  behind_it : at_keys fewer (behind k (chain_of table i)) ≡ mended_in (mend_of gone (at_keys records (behind k (chain_of table i)))) (at_keys records (behind k (chain_of table i)))
  behind_it =
      back_mended records fewer k mend (behind k (chain_of table i)) (distinct_tail k (behind k (chain_of table i)) distinct)
      (λ l among. listed_apart (behind k (chain_of table i)) l k among (distinct_head k (behind k (chain_of table i)) distinct))
      (λ l off. moves l off ∙ ap (λ (o : Option ℕ). mended_at records o mend l) over)
      ∙ ap (λ (m : Mend). mended_in m (at_keys records (behind k (chain_of table i)))) mend_is

-- ---- a record comes to stand for good
-- nothing behind the key changes
none_inside : (keys : List ℕ) (n : ℕ) → None ≡ Some n → lists keys n ≡ true
none_inside keys n e = cc e

-- the lists after the write of t at k is dropped with all before it on its object
pub settles_through : (records fewer : Slab Record) (table less : Chained) (t k i visited : ℕ) (gone : Record) → IsConsistent table → IsConsistent less → home_of table k ≡ Some i → get records k ≡ Some gone → is_of t gone ≡ true → is_write gone ≡ true
    → chain_of less i ≡ behind k (chain_of table i) → ((j : ℕ) → eqb j i ≡ false → chain_of less j ≡ chain_of table j) → length less.chains ≡ length table.chains
    → ((l : ℕ) → is_some (get fewer l) ≡ true → get fewer l ≡ get records l) → ((l : ℕ) → is_some (get fewer l) ≡ is_some (home_of less l))
    → count_by (is_owned (λ (n : ℕ). true)) (record_at records k ∷ at_keys records (ahead k (chain_of table i))) ≤ visited
    → visited ≤ 4 * count_by (is_owned (λ (n : ℕ). true)) (record_at records k ∷ at_keys records (ahead k (chain_of table i))) → Settles t i visited (map (at_keys records) table.chains) (map (at_keys fewer) less.chains)
unfolding at_keys ChangesOn settled_on settled_many is_write is_owned owner_of
settles_through records fewer table less t k i visited gone sound sound_less home there whose wrote rest others many kept placed least bound = record {
  older = at_keys records (ahead k (chain_of table i));
  gone = gone;
  later = at_keys records (behind k (chain_of table i));
  lasts = true;
  stood = row_stood records records table k i gone None sound home there (none_inside (behind k (chain_of table i))) (λ l off differ. refl);
  owner = whose;
  alone = λ is. absurd (true≢false is);
  changes = subst (λ (news : List Record). ChangesOn i news (map (at_keys records) table.chains) (map (at_keys fewer) less.chains)) (sym (goes_through gone wrote)) (same_many, changes);
  counted = subst (λ (n : ℕ). n ≤ visited) many_is least;
  bound = subst (λ (n : ℕ). visited ≤ 4 * n) many_is bound;
} where
  goes_through : (one : Record) → is_write one ≡ true → settled_on true one (at_keys records (ahead k (chain_of table i))) (at_keys records (behind k (chain_of table i))) ≡ at_keys records (behind k (chain_of table i))
  goes_through (Write owner before) is = refl
  goes_through (Add owner amount) is = absurd (true≢false (sym is))
  goes_through (Lasting amount) is = absurd (true≢false (sym is))

  counts : (one : Record) → is_write one ≡ true → count_by (is_owned (λ (n : ℕ). true)) (one ∷ at_keys records (ahead k (chain_of table i))) ≡ settled_many one (at_keys records (ahead k (chain_of table i)))
  counts (Write owner before) is = sum_by-cons (λ (one : Record). cond {A = ℕ} (is_owned (λ (n : ℕ). true) one) 1 0) (Write owner before) (at_keys records (ahead k (chain_of table i)))
  counts (Add owner amount) is = absurd (true≢false (sym is))
  counts (Lasting amount) is = absurd (true≢false (sym is))

  many_is : count_by (is_owned (λ (n : ℕ). true)) (record_at records k ∷ at_keys records (ahead k (chain_of table i))) ≡ settled_many gone (at_keys records (ahead k (chain_of table i)))
  many_is = ap (λ (one : Record). count_by (is_owned (λ (n : ℕ). true)) (one ∷ at_keys records (ahead k (chain_of table i)))) (read_some records k gone there) ∙ counts gone wrote

  same_many : length (map (at_keys fewer) less.chains) ≡ length (map (at_keys records) table.chains)
  same_many = length-map less.chains (at_keys fewer) ∙ many ∙ sym (length-map table.chains (at_keys records))

  -- what is left in a chain is as it was
  left_same : (j : ℕ) → at_keys fewer (chain_of less j) ≡ at_keys records (chain_of less j)
  left_same j = keys_same records fewer (chain_of less j) (λ l among. read_as fewer records l (kept l (placed l ∙ ap is_some (sound_less.at_home j l among))))

  changes : (j : ℕ) → on (map (at_keys fewer) less.chains) j ≡ cond (eqb i j) (at_keys records (behind k (chain_of table i))) (on (map (at_keys records) table.chains) j)
  changes j = on_chain fewer less j ∙ left_same j ∙ go (eqb i j) refl where
    go : (b : Bool) → eqb i j ≡ b → at_keys records (chain_of less j) ≡ cond b (at_keys records (behind k (chain_of table i))) (on (map (at_keys records) table.chains) j)
    go true e = ap (λ (n : ℕ). at_keys records (chain_of less n)) (sym (eqb-true i j e)) ∙ ap (at_keys records) rest
    go false e = ap (at_keys records) (others j (ne_eqb j i (λ same. eqb-false i j e (sym same)))) ∙ sym (on_chain records table j)

-- the lists after the add of t at k becomes nobody's
pub settles_lasting : (records fewer : Slab Record) (table : Chained) (t k i visited : ℕ) (owner : Txn) (amount : ℤ) → IsConsistent table → home_of table k ≡ Some i → get records k ≡ Some (Add owner amount) → is_of t (Add owner amount) ≡ true
    → ((l : ℕ) → get fewer l ≡ cond (eqb l k) (Some (Lasting amount)) (get records l)) → 1 ≤ visited → visited ≤ 4 → Settles t i visited (map (at_keys records) table.chains) (map (at_keys fewer) table.chains)
unfolding settled_on settled_many
settles_lasting records fewer table t k i visited owner amount sound home there whose put least most = record {
  older = at_keys records (ahead k (chain_of table i));
  gone = Add owner amount;
  later = at_keys records (behind k (chain_of table i));
  lasts = true;
  stood = row_stood records fewer table k i (Add owner amount) None sound home there inside stays;
  owner = whose;
  alone = λ is. absurd (true≢false is);
  changes = instead_changes records fewer table k i (Add owner amount) None sound home there inside stays (Lasting amount) refl (put k ∙ ap (λ (b : Bool). cond b (Some (Lasting amount)) (get records k)) (eq-eqb k k refl));
  counted = least;
  bound = omega (arith, most);
} where
  inside : (n : ℕ) → None ≡ Some n → lists (behind k (chain_of table i)) n ≡ true
  inside = none_inside (behind k (chain_of table i))

  stays : (l : ℕ) → (l ≡ k → ⊥) → ((n : ℕ) → None ≡ Some n → l ≡ n → ⊥) → get fewer l ≡ get records l
  stays l off differ = put l ∙ ap (λ (b : Bool). cond b (Some (Lasting amount)) (get records l)) (ne_eqb l k off)

-- the lists after the add of t at k goes, where no write stands before it
pub settles_dropped : (records fewer : Slab Record) (table less : Chained) (t k i visited : ℕ) (owner : Txn) (amount : ℤ) → IsConsistent table → home_of table k ≡ Some i → get records k ≡ Some (Add owner amount) → is_of t (Add owner amount) ≡ true
    → has_write (at_keys records (ahead k (chain_of table i))) ≡ false
    → ((l : ℕ) → get fewer l ≡ cond (eqb l k) None (get records l)) → ((j : ℕ) → chain_of less j ≡ without k (chain_of table j)) → length less.chains ≡ length table.chains
    → 1 ≤ visited → visited ≤ 4 → Settles t i visited (map (at_keys records) table.chains) (map (at_keys fewer) less.chains)
unfolding settled_on settled_many
settles_dropped records fewer table less t k i visited owner amount sound home there whose none drops chains many least most = record {
  older = at_keys records (ahead k (chain_of table i));
  gone = Add owner amount;
  later = at_keys records (behind k (chain_of table i));
  lasts = false;
  stood = row_stood records fewer table k i (Add owner amount) None sound home there inside stays;
  owner = whose;
  alone = λ is. none;
  changes = without_changes records fewer table k i (Add owner amount) None sound home there inside stays less (at_keys records (behind k (chain_of table i)))
      (back_same records fewer table k i (Add owner amount) None sound home there inside stays refl) chains many;
  counted = least;
  bound = omega (arith, most);
} where
  inside : (n : ℕ) → None ≡ Some n → lists (behind k (chain_of table i)) n ≡ true
  inside = none_inside (behind k (chain_of table i))

  stays : (l : ℕ) → (l ≡ k → ⊥) → ((n : ℕ) → None ≡ Some n → l ≡ n → ⊥) → get fewer l ≡ get records l
  stays l off differ = drops l ∙ ap (λ (b : Bool). cond b None (get records l)) (ne_eqb l k off)

-- one without a seat, or whose column is empty, has no record
pub no_record_of : (records : Crossed Record) (seats : Seated) (t : Txn) → IsTied records seats → IsCrossed records → ((c : ℕ) → seat seats c ≡ Some t → chain_of records.columns (suc c) ≡ []) → HasNone t.0 (map (at_keys records.items) records.rows.chains)
unfolding HasNone is_owned
no_record_of records seats t tied crossed empty j = rw (on_chain records.items records.rows j) (any_key records.items (λ one. owner_passes (λ (n : ℕ). eqb n t.0) (owner_of one)) (chain_of records.rows j) none) where
  none : (k : ℕ) → lists (chain_of records.rows j) k ≡ true → owner_passes (λ (n : ℕ). eqb n t.0) (owner_of (record_at records.items k)) ≡ false
  none k among =
      let held = has_record records crossed k j ((crossed.sound Row).at_home j k among) in
      ap (λ (one : Record). owner_passes (λ (n : ℕ). eqb n t.0) (owner_of one)) (read_some records.items k held.0 held.1) ∙ by (owner_of held.0) refl where
        listed_nowhere : (c : ℕ) → home_of records.columns k ≡ Some (suc c) → seat seats c ≡ Some t → ⊥
        listed_nowhere c home sat = true≢false (sym ((crossed.sound Column).listed (suc c) k home) ∙ ap (λ (keys : List ℕ). lists keys k) (empty c sat))

        by : (o : Option Txn) → owner_of (has_record records crossed k j ((crossed.sound Row).at_home j k among)).0 ≡ o → owner_passes (λ (n : ℕ). eqb n t.0) o ≡ false
        by None e = refl
        by (Some u) e =
            let held = has_record records crossed k j ((crossed.sound Row).at_home j k among) in
            let at = home_of_owner records seats tied k held.0 u held.1 e in
            ne_eqb u.0 t.0 (λ same. listed_nowhere at.0 at.1 (at.2 ∙ ap Some (one_txn u t same)))

-- keys of which none is first are none, and so are those of which none is last
pub no_first : (keys : List ℕ) → first_of keys ≡ None → keys ≡ []
no_first [] none = refl
no_first (k ∷ keys) none = cc none

pub no_last : (keys : List ℕ) → last_of keys ≡ None → keys ≡ []
no_last [] none = refl
no_last (k ∷ keys) none = absurd (never k keys none) where
  never : (k : ℕ) (keys : List ℕ) → last_of (k ∷ keys) ≡ None → ⊥
  never k [] none = cc none
  never k (j ∷ keys) none = never j keys none

-- the column of the seat is that of each seat that is the transaction's
pub column_empty : (records : Crossed Record) (seats : Seated) (t : Sitter) → HasSeat seats t → ((u : Txn) (c d : ℕ) → seat seats c ≡ Some u → seat seats d ≡ Some u → d ≡ c) → chain_of records.columns (suc t.at) ≡ []
    → (c : ℕ) → seat seats c ≡ Some t.t → chain_of records.columns (suc c) ≡ []
column_empty records seats t sits one none c sat = ap (λ (n : ℕ). chain_of records.columns (suc n)) (one t.t t.at c sits sat) ∙ none

-- a seat that is free and has a column may be given
pub sits_tied : (records : Crossed Record) (seats given : Seated) (at : ℕ) (t : Txn) → IsTied records seats → IsCrossed records → seat seats at ≡ None → suc at < length records.columns.chains
    → ((c : ℕ) → seat given c ≡ cond (eqb c at) (Some t) (seat seats c)) → IsTied records given
unfolding owner_at
sits_tied records seats given at t tied crossed free room sits = record {
  owned = λ k. tied.owned k ∙ stays k (home_of records.columns k) refl;
  within = λ c sat. within c (eqb c at) refl sat;
} where
  within : (c : ℕ) (b : Bool) → eqb c at ≡ b → is_some (seat given c) ≡ true → suc c < length records.columns.chains
  within c true e sat = let here : c ≡ at = eqb-true c at e in rw here room
  within c false e sat = tied.within c (ap is_some (sym (sits c ∙ ap (λ (b : Bool). cond b (Some t) (seat seats c)) e)) ∙ sat)

  -- no record is in the column of a seat that is free
  apart : (k c : ℕ) → home_of records.columns k ≡ Some (suc c) → c ≡ at → ⊥
  apart k c home same =
      let item = sym (crossed.placed Column k) ∙ ap is_some home in
      let held = some_of (get records.items k) item in
      let nobody : Some (owner_of held.0) ≡ None = sym (ap (option_map owner_of) held.1) ∙ tied.owned k ∙ ap (owner_at seats) home ∙ ap somebody (ap (seat seats) same ∙ free) in
      cc nobody

  stays : (k : ℕ) (o : Option ℕ) → home_of records.columns k ≡ o → owner_at seats o ≡ owner_at given o
  stays k None home = refl
  stays k (Some zero) home = refl
  stays k (Some (suc c)) home = ap somebody (sym (sits c ∙ ap (λ (b : Bool). cond b (Some t) (seat seats c)) (ne_eqb c at (apart k c home))))

-- who has left a seat had it
taken_before : (seats left : Seated) (at c : ℕ) → seat left c ≡ cond (eqb c at) None (seat seats c) → is_some (seat left c) ≡ true → is_some (seat seats c) ≡ true
taken_before seats left at c leaves sat = go (eqb c at) refl where
  go : (b : Bool) → eqb c at ≡ b → is_some (seat seats c) ≡ true
  go true e = absurd (true≢false (sym sat ∙ ap is_some (leaves ∙ ap (λ (b : Bool). cond b None (seat seats c)) e)))
  go false e = ap is_some (sym (leaves ∙ ap (λ (b : Bool). cond b None (seat seats c)) e)) ∙ sat

-- whoever has the seat of a column without records may leave it
pub left_tied : (records : Crossed Record) (seats left : Seated) (at : ℕ) → IsTied records seats → ((k c : ℕ) → home_of records.columns k ≡ Some (suc c) → c ≡ at → ⊥)
    → ((c : ℕ) → seat left c ≡ cond (eqb c at) None (seat seats c)) → IsTied records left
unfolding owner_at
left_tied records seats left at tied apart leaves = record {
  owned = λ k. tied.owned k ∙ stays k (home_of records.columns k) refl;
  within = λ c sat. tied.within c (taken_before seats left at c (leaves c) sat);
} where
  stays : (k : ℕ) (o : Option ℕ) → home_of records.columns k ≡ o → owner_at seats o ≡ owner_at left o
  stays k None home = refl
  stays k (Some zero) home = refl
  stays k (Some (suc c)) home = ap somebody (sym (leaves c ∙ ap (λ (b : Bool). cond b None (seat seats c)) (ne_eqb c at (apart k c home))))

-- one who has no record may leave its seat
pub leaves_tied : (records : Crossed Record) (seats left : Seated) (t : Sitter) → IsTied records seats → IsCrossed records → HasSeat seats t → HasNone t.t.0 (map (at_keys records.items) records.rows.chains)
    → ((c : ℕ) → seat left c ≡ cond (eqb c t.at) None (seat seats c)) → IsTied records left
unfolding HasNone
leaves_tied records seats left t tied crossed sits none leaves = left_tied records seats left t.at tied apart leaves where
  -- no record is in the column
  apart : (k c : ℕ) → home_of records.columns k ≡ Some (suc c) → c ≡ t.at → ⊥
  apart k c home same =
      let held = has_owned records seats tied k c t.t home (ap (seat seats) same ∙ sits) in
      let place = some_of (home_of records.rows k) (crossed.placed Row k ∙ ap is_some held.1) in
      let listed = (crossed.sound Row).listed place.0 k place.1 in
      let clear = none_passes records.items (is_of t.t.0) (chain_of records.rows place.0) (sym (ap (list_any (is_of t.t.0)) (on_chain records.items records.rows place.0)) ∙ none place.0) k listed in
      true≢false (sym (eq-eqb t.t.0 t.t.0 refl) ∙ sym (owned_is (λ (n : ℕ). eqb n t.t.0) held.0 t.t held.2) ∙ sym (ap (is_of t.t.0) (read_some records.items k held.0 held.1)) ∙ clear)

-- a value that is mended moves no record, and changes no owner
pub mended_tied : (records later : Crossed Record) (seats : Seated) (next : Option ℕ) (mend : Mend) → IsTied records seats → ((k : ℕ) → get later.items k ≡ mended_at records.items next mend k) → later.columns ≡ records.columns → IsTied later seats
unfolding mended_at owner_of mended_record
mended_tied records later seats next mend tied mends columns = record {
  owned = λ k. ap (option_map owner_of) (mends k) ∙ same_owner next k ∙ tied.owned k ∙ sym (ap (λ (table : Chained). owner_at seats (home_of table k)) columns);
  within = λ c sat. omega (arith, tied.within c sat, ap (λ (table : Chained). length table.chains) columns);
} where
  one_owner : (one : Record) → owner_of (mended_record mend one) ≡ owner_of one
  one_owner (Write owner before) = refl
  one_owner (Add owner amount) = refl
  one_owner (Lasting amount) = refl

  whose : (b : Bool) (o : Option Record) → option_map owner_of (cond b (option_map (mended_record mend) o) o) ≡ option_map owner_of o
  whose true None = refl
  whose true (Some one) = ap Some (one_owner one)
  whose false o = refl

  same_owner : (o : Option ℕ) (k : ℕ) → option_map owner_of (mended_at records.items o mend k) ≡ option_map owner_of (get records.items k)
  same_owner None k = refl
  same_owner (Some n) k = whose (eqb k n) (get records.items k)
