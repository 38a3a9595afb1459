-- What stands for good: records of nobody, and the lists without them.
use Rattle.std.proofs.Common.{◌≡◌, ℕ, ◌<◌, ◌≤◌, Bool, true, false, not, cond, eqb, List, [], ◌∷◌, ◌++◌, map, Option, Some, None, is_some, length, refl, sym, ap, ◌∙◌, arith, inl, inr}
use Rattle.std.specs.Prelude.{ℤ}
use Rattle.std.specs.Option.{option_map}
use Rattle.std.proofs.lemmas.Bool.{eqb-true, eqb-false, true≢false, cases_lt, ne_eqb}
use Rattle.std.proofs.lemmas.List.{length-map, get_or_past}
use Rattle.slab.specs.Slab.{Slab, get}
use Rattle.asset_names.specs.declared.names.Txn.{Txn}
use Rattle.asset_names.proofs.Common.{some_of}
use Rattle.asset_chains.specs.Chained.{Chained, chain_of, home_of, first_of, without, lists}
use Rattle.asset_chains.specs.declared.side.Side.TheVariants.{Row, Column}
use Rattle.asset_chains.specs.Crossed.{Crossed, IsCrossed}
use Rattle.asset_seats.specs.Seated.{Seated}
use Rattle.asset_records.specs.declared.records.Record.{Record}
use Rattle.asset_records.specs.declared.records.Record.TheVariants.{Write, Add, Lasting}
use Rattle.asset_records.specs.Listed.{on, no_record, record_at, at_keys, is_of, is_owned, owner_of, owner_at, owner_passes, lists_in, begins_with_nobodys, IsTied, ChangesOn, Sheds}
use Rattle.asset_records.specs.Dropped.{added_by, added_at}
use Rattle.asset_records.proofs.ListedLemmas.{on_chain, keys_same, owner_is}
use Rattle.asset_records.proofs.BackLemmas.{read_as}
use Rattle.asset_records.proofs.DropLemmas.{read_some}
use Rattle.asset_records.proofs.ThroughLemmas.{chain_is, rest_is, others_are}

-- there is no chain past the last
pub chain_past : (table : Chained) (c : ℕ) → length table.chains ≤ c → chain_of table c ≡ []
unfolding chain_of
chain_past table c past = get_or_past table.chains c [] past

-- a chain with a key is no chain past the last
pub chain_within : (table : Chained) (c k : ℕ) → lists (chain_of table c) k ≡ true → c < length table.chains
chain_within table c k among = elim (cases_lt c (length table.chains)) [
  | inl within ↦ within
  | inr past ↦ absurd (true≢false (sym among ∙ ap (λ (keys : List ℕ). lists keys k) (chain_past table c past)))
]

-- where there is a record, there is a column
pub column_there : (records : Crossed Record) (key : ℕ) → IsCrossed records → is_some (get records.items key) ≡ true → 0 < length records.columns.chains
column_there records key crossed there =
    let at = some_of (home_of records.columns key) (crossed.placed Column key ∙ there) in
    omega (arith, chain_within records.columns at.0 key ((crossed.sound Column).listed at.0 key at.1))

-- a record of somebody that added is an add
pub added_owned : (records : Slab Record) (k t : ℕ) (amount : ℤ) → added_at records k ≡ Some amount → is_of t (record_at records k) ≡ true → (owner : Txn) × (get records k ≡ Some (Add owner amount)) × (is_of t (Add owner amount) ≡ true)
unfolding added_by record_at is_owned owner_of no_record
added_owned records k t amount added whose = go (get records k) refl where
  go : (o : Option Record) → get records k ≡ o → (owner : Txn) × (get records k ≡ Some (Add owner amount)) × (is_of t (Add owner amount) ≡ true)
  go None e = cc (sym added ∙ ap added_by e)
  go (Some (Write owner before)) e = cc (sym added ∙ ap added_by e)
  go (Some (Lasting some)) e = absurd (true≢false (sym whose ∙ ap (is_of t) (read_some records k (Lasting some) e)))
  go (Some (Add owner some)) e =
      let same : Some some ≡ Some amount = sym (ap added_by e) ∙ added in
      let is : some ≡ amount = cc same in
      (owner, e ∙ ap (λ (n : ℤ). Some (Add owner n)) is, sym (ap (is_of t) (read_some records k (Add owner some) e)) ∙ whose)

-- a record of one transaction is somebody's
pub owned_any : (t : ℕ) (one : Record) → is_of t one ≡ true → is_owned (λ (n : ℕ). true) one ≡ true
unfolding is_owned
owned_any t one whose = let who = owner_is (λ (n : ℕ). eqb n t) one whose in ap (owner_passes (λ (n : ℕ). true)) who.1

-- a record of nobody is in the first column
pub lasting_tied : (records more : Crossed Record) (seats : Seated) (key : ℕ) (amount : ℤ) → IsTied records seats → ((k : ℕ) → get more.items k ≡ cond (eqb k key) (Some (Lasting amount)) (get records.items k))
    → ((k : ℕ) → home_of more.columns k ≡ cond (eqb k key) (Some 0) (home_of records.columns k)) → length more.columns.chains ≡ length records.columns.chains → IsTied more seats
unfolding owner_at owner_of
lasting_tied records more seats key amount tied items homes many = record {
  owned = λ k. ap (option_map owner_of) (items k) ∙ go k (eqb k key) ∙ sym (ap (owner_at seats) (homes k));
  within = λ c sat. omega (arith, tied.within c sat, many);
} where
  go : (k : ℕ) (b : Bool) → option_map owner_of (cond b (Some (Lasting amount)) (get records.items k)) ≡ owner_at seats (cond b (Some 0) (home_of records.columns k))
  go k true = refl
  go k false = tied.owned k

-- ---- adds of nobody before all else are dropped
pub record IsShedding (object : ℕ) (old now : Crossed Record) : Type 0 where
  pub amounts : List ℤ
  pub split : at_keys old.items (chain_of old.rows object) ≡ map Lasting amounts ++ at_keys old.items (chain_of now.rows object)
  pub others : (j : ℕ) → eqb j object ≡ false → chain_of now.rows j ≡ chain_of old.rows j
  pub kept : (k : ℕ) → is_some (get now.items k) ≡ true → get now.items k ≡ get old.items k
  pub many : length now.rows.chains ≡ length old.rows.chains

pub shedding_steps : (object key : ℕ) (amount : ℤ) (old now new : Crossed Record) → IsShedding object old now → IsCrossed now → first_of (chain_of now.rows object) ≡ Some key → get now.items key ≡ Some (Lasting amount)
    → ((j : ℕ) → chain_of new.rows j ≡ without key (chain_of now.rows j)) → ((k : ℕ) → get new.items k ≡ cond (eqb k key) None (get now.items k)) → length new.rows.chains ≡ length now.rows.chains → IsShedding object old new
unfolding at_keys
shedding_steps object key amount old now new is crossed first there chains drops many = record {
  amounts = is.amounts ++ amount ∷ [];
  split = is.split ∙ (λ m. map Lasting is.amounts ++ here m) ∙ append_one is.amounts;
  others = λ j apart. others_are now.rows new.rows key object (crossed.sound Row) first chains j apart ∙ is.others j apart;
  kept = λ k stands. kept k (eqb k key) refl stands;
  many = many ∙ is.many;
} where
  rest : chain_of now.rows object ≡ key ∷ chain_of new.rows object
  rest = chain_is now.rows new.rows key object (crossed.sound Row) first chains ∙ ap (λ (keys : List ℕ). key ∷ keys) (sym (rest_is now.rows new.rows key object (crossed.sound Row) first chains))

  read : record_at old.items key ≡ Lasting amount
  read = read_some old.items key (Lasting amount) (sym (is.kept key (ap is_some there)) ∙ there)

  here : at_keys old.items (chain_of now.rows object) ≡ Lasting amount ∷ at_keys old.items (chain_of new.rows object)
  here = ap (at_keys old.items) rest ∙ ap (λ (one : Record). one ∷ at_keys old.items (chain_of new.rows object)) read

  append_one : (amounts : List ℤ) → map Lasting amounts ++ Lasting amount ∷ at_keys old.items (chain_of new.rows object) ≡ map Lasting (amounts ++ amount ∷ []) ++ at_keys old.items (chain_of new.rows object)
  append_one [] = refl
  append_one (a ∷ amounts) = ap (λ (l : List Record). Lasting a ∷ l) (append_one amounts)

  kept : (k : ℕ) (b : Bool) → eqb k key ≡ b → is_some (get new.items k) ≡ true → get new.items k ≡ get old.items k
  kept k true e stands = absurd (true≢false (sym stands ∙ ap is_some (drops k ∙ ap (λ (b : Bool). cond b None (get now.items k)) e)))
  kept k false e stands =
      let same : get new.items k ≡ get now.items k = drops k ∙ ap (λ (b : Bool). cond b None (get now.items k)) e in
      same ∙ is.kept k (sym (ap is_some same) ∙ stands)

pub shedding_ends : (object : ℕ) (old now : Crossed Record) → IsShedding object old now → IsCrossed now → Sheds object (lists_in old) (lists_in now)
unfolding ChangesOn
shedding_ends object old now is crossed = record {
  amounts = is.amounts;
  later = at_keys old.items (chain_of now.rows object);
  stood = on_chain old.items old.rows object ∙ is.split;
  changes = (length-map now.rows.chains (at_keys now.items) ∙ is.many ∙ sym (length-map old.rows.chains (at_keys old.items)), changes);
} where
  same : (j : ℕ) → at_keys now.items (chain_of now.rows j) ≡ at_keys old.items (chain_of now.rows j)
  same j = keys_same old.items now.items (chain_of now.rows j) (λ k among. read_as now.items old.items k (is.kept k (sym (crossed.placed Row k) ∙ ap is_some ((crossed.sound Row).at_home j k among))))

  changes : (j : ℕ) → on (lists_in now) j ≡ cond (eqb object j) (at_keys old.items (chain_of now.rows object)) (on (lists_in old) j)
  changes j = on_chain now.items now.rows j ∙ same j ∙ go (eqb object j) refl where
    go : (b : Bool) → eqb object j ≡ b → at_keys old.items (chain_of now.rows j) ≡ cond b (at_keys old.items (chain_of now.rows object)) (on (lists_in old) j)
    go true e = ap (λ (n : ℕ). at_keys old.items (chain_of now.rows n)) (sym (eqb-true object j e))
    go false e = ap (at_keys old.items) (is.others j (ne_eqb j object (λ same. eqb-false object j e (sym same)))) ∙ sym (on_chain old.items old.rows j)

-- a record of nobody is an add that lasts
pub nobodys_is : (records : Slab Record) (k : ℕ) → is_some (get records k) ≡ true → is_owned (λ (n : ℕ). true) (record_at records k) ≡ false → (amount : ℤ) × (get records k ≡ Some (Lasting amount))
unfolding record_at is_owned owner_of no_record
nobodys_is records k there nobodys = go (get records k) refl where
  go : (o : Option Record) → get records k ≡ o → (amount : ℤ) × (get records k ≡ Some (Lasting amount))
  go None e = absurd (true≢false (sym there ∙ ap is_some e))
  go (Some (Write owner before)) e = absurd (true≢false (ap (is_owned (λ (n : ℕ). true)) (sym (read_some records k (Write owner before) e)) ∙ nobodys))
  go (Some (Add owner amount)) e = absurd (true≢false (ap (is_owned (λ (n : ℕ). true)) (sym (read_some records k (Add owner amount) e)) ∙ nobodys))
  go (Some (Lasting amount)) e = (amount, e)

-- the walk ends before a record of somebody, or with none
pub none_first : (records : Crossed Record) (object : ℕ) → first_of (chain_of records.rows object) ≡ None → begins_with_nobodys (on (lists_in records) object) ≡ false
unfolding at_keys begins_with_nobodys
none_first records object none = ap begins_with_nobodys (on_chain records.items records.rows object) ∙ go (chain_of records.rows object) none where
  go : (keys : List ℕ) → first_of keys ≡ None → begins_with_nobodys (map (record_at records.items) keys) ≡ false
  go [] e = refl
  go (k ∷ keys) e = cc e

pub somebodys_first : (records : Crossed Record) (object k : ℕ) → first_of (chain_of records.rows object) ≡ Some k → is_owned (λ (n : ℕ). true) (record_at records.items k) ≡ true → begins_with_nobodys (on (lists_in records) object) ≡ false
unfolding at_keys begins_with_nobodys
somebodys_first records object k first owned = ap begins_with_nobodys (on_chain records.items records.rows object) ∙ go (chain_of records.rows object) first where
  go : (keys : List ℕ) → first_of keys ≡ Some k → begins_with_nobodys (map (record_at records.items) keys) ≡ false
  go [] e = cc e
  go (x ∷ keys) e = let same : x ≡ k = cc e in ap (λ (n : ℕ). not (is_owned (λ (m : ℕ). true) (record_at records.items n))) same ∙ ap not owned
