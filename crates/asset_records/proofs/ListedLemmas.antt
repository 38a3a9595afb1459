-- Records in their rows and columns, and what a change of one key makes of the lists.
use Rattle.std.proofs.Common.{◌≡◌, ℕ, zero, suc, Bool, true, false, eqb, ◌||◌, List, [], ◌∷◌, ◌++◌, map, length, Option, Some, None, is_some, refl, sym, ap, ◌∙◌, ◌≤◌, arith}
use Rattle.std.specs.Prelude.{slice_index_or, unwrap_or}
use Rattle.std.specs.Option.{option_map}
use Rattle.std.specs.List.{list_any}
use Rattle.std.proofs.lemmas.Bool.{eq-eqb, eqb-true, true≢false, or_parts}
use Rattle.std.proofs.lemmas.List.{map-append}
use Rattle.std.proofs.Math.ListN as listn
use Rattle.slab.specs.Slab.{Slab, get}
use Rattle.asset_names.specs.declared.names.Txn.{Txn}
use Rattle.asset_names.proofs.Common.{some_of, none_of}
pub use Rattle.asset_chains.proofs.Laws.{read_more}
use Rattle.asset_chains.specs.Chained.{Chained, chain_of, home_of, lists, one_chain_more}
use Rattle.asset_chains.specs.declared.side.Side.TheVariants.{Row, Column}
use Rattle.asset_chains.specs.Crossed.{Crossed, IsCrossed}
use Rattle.asset_records.specs.declared.records.Record.{Record}
use Rattle.asset_seats.specs.Seated.{Seated, seat}
use Rattle.asset_records.specs.Listed.{on, no_record, record_at, at_keys, lists_in, owner_of, owner_at, somebody, owner_passes, is_owned, IsTied}

-- the records of an object are those of its chain
pub on_chain : (records : Slab Record) (table : Chained) (j : ℕ) → on (map (at_keys records) table.chains) j ≡ at_keys records (chain_of table j)
unfolding on chain_of at_keys
on_chain records table j = listn.get_or-map (at_keys records) table.chains j []

pub keys_append : (records : Slab Record) (a b : List ℕ) → at_keys records (a ++ b) ≡ at_keys records a ++ at_keys records b
unfolding at_keys
keys_append records a b = map-append (record_at records) a b

pub keys_length : (records : Slab Record) (keys : List ℕ) → length (at_keys records keys) ≡ length keys
unfolding at_keys
keys_length records [] = refl
keys_length records (k ∷ keys) = ap suc (keys_length records keys)

-- records that stay are shown alike
pub keys_same : (old new : Slab Record) (keys : List ℕ) → ((k : ℕ) → lists keys k ≡ true → record_at new k ≡ record_at old k) → at_keys new keys ≡ at_keys old keys
unfolding at_keys
keys_same old new [] same = refl
keys_same old new (k ∷ keys) same = λ i. same k first i ∷ keys_same old new keys (λ l among. same l (later l among)) i where
  first : lists (k ∷ keys) k ≡ true
  first = ap (λ (b : Bool). b || lists keys k) (eq-eqb k k refl)

  later : (l : ℕ) → lists keys l ≡ true → lists (k ∷ keys) l ≡ true
  later l among = ap (λ (b : Bool). eqb l k || b) among ∙ either (eqb l k) where
    either : (b : Bool) → (b || true) ≡ true
    either true = refl
    either false = refl

-- one of the records passes a test exactly if a key's does
pub any_key : (records : Slab Record) (test : Record → Bool) (keys : List ℕ) → ((k : ℕ) → lists keys k ≡ true → test (record_at records k) ≡ false) → list_any test (at_keys records keys) ≡ false
unfolding at_keys
any_key records test [] none = refl
any_key records test (k ∷ keys) none = λ i. (none k first i || any_key records test keys (λ l among. none l (later l among)) i) where
  first : lists (k ∷ keys) k ≡ true
  first = ap (λ (b : Bool). b || lists keys k) (eq-eqb k k refl)

  later : (l : ℕ) → lists keys l ≡ true → lists (k ∷ keys) l ≡ true
  later l among = ap (λ (b : Bool). eqb l k || b) among ∙ either (eqb l k) where
    either : (b : Bool) → (b || true) ≡ true
    either true = refl
    either false = refl

-- if no record passes, that at a key does not
pub none_passes : (records : Slab Record) (test : Record → Bool) (keys : List ℕ) → list_any test (at_keys records keys) ≡ false → (k : ℕ) → lists keys k ≡ true → test (record_at records k) ≡ false
unfolding at_keys
none_passes records test [] none k among = absurd (true≢false (sym among))
none_passes records test (x ∷ keys) none k among = go (none_passes records test keys parts.1 k) (eqb k x) refl among where
  parts : (test (record_at records x) ≡ false) × (list_any test (map (record_at records) keys) ≡ false)
  parts = or_parts (test (record_at records x)) (list_any test (map (record_at records) keys)) none

  go : (lists keys k ≡ true → test (record_at records k) ≡ false) → (b : Bool) → eqb k x ≡ b → (b || lists keys k) ≡ true → test (record_at records k) ≡ false
  go later true e h = ap (λ (n : ℕ). test (record_at records n)) (eqb-true k x e) ∙ parts.0
  go later false e h = later h

module _ (records : Crossed Record) (seats : Seated) (tied : IsTied records seats) where
  -- a record's owner has a seat, in whose column the record is
  pub home_of_owner : (k : ℕ) (one : Record) (t : Txn) → get records.items k ≡ Some one → owner_of one ≡ Some t → (c : ℕ) × (home_of records.columns k ≡ Some (suc c)) × (seat seats c ≡ Some t)
  unfolding owner_at
  home_of_owner k one t there whose = go (home_of records.columns k) refl where
    is : owner_at seats (home_of records.columns k) ≡ Some (Some t)
    is = sym (tied.owned k) ∙ ap (option_map owner_of) there ∙ ap Some whose

    sits : (o : Option Txn) → somebody o ≡ Some (Some t) → o ≡ Some t
    sits None e = cc e
    sits (Some u) e = cc e

    go : (home : Option ℕ) → home_of records.columns k ≡ home → (c : ℕ) × (home_of records.columns k ≡ Some (suc c)) × (seat seats c ≡ Some t)
    go None e = cc (sym (ap (owner_at seats) e) ∙ is)
    go (Some zero) e = cc (sym (ap (owner_at seats) e) ∙ is)
    go (Some (suc c)) e = (c, e, sits (seat seats c) (sym (ap (owner_at seats) e) ∙ is))

  -- a key in an owner's column has a record of the owner's
  pub has_owned : (k c : ℕ) (t : Txn) → home_of records.columns k ≡ Some (suc c) → seat seats c ≡ Some t → (one : Record) × (get records.items k ≡ Some one) × (owner_of one ≡ Some t)
  unfolding owner_at
  has_owned k c t home whose = go (get records.items k) refl where
    is : option_map owner_of (get records.items k) ≡ Some (Some t)
    is = tied.owned k ∙ ap (owner_at seats) home ∙ ap somebody whose

    go : (held : Option Record) → get records.items k ≡ held → (one : Record) × (get records.items k ≡ Some one) × (owner_of one ≡ Some t)
    go None e = cc (sym is ∙ ap (option_map owner_of) e)
    go (Some one) e = let same : Some (owner_of one) ≡ Some (Some t) = sym (ap (option_map owner_of) e) ∙ is in (one, e, cc same)

-- a record with this owner passes the tests that its owner passes
pub owned_is : (test : ℕ → Bool) (one : Record) (t : Txn) → owner_of one ≡ Some t → is_owned test one ≡ test t.0
unfolding is_owned
owned_is test one t whose = ap (owner_passes test) whose

-- a record that passes has an owner, which passes
pub owner_is : (test : ℕ → Bool) (one : Record) → is_owned test one ≡ true → (t : Txn) × (owner_of one ≡ Some t) × (test t.0 ≡ true)
unfolding is_owned
owner_is test one passes = go (owner_of one) refl where
  go : (o : Option Txn) → owner_of one ≡ o → (t : Txn) × (owner_of one ≡ Some t) × (test t.0 ≡ true)
  go None e = absurd (true≢false (sym passes ∙ ap (owner_passes test) e))
  go (Some t) e = (t, e, sym (ap (owner_passes test) e) ∙ passes)

-- a key in a row has a record
pub has_record : (records : Crossed Record) → IsCrossed records → (k i : ℕ) → home_of records.rows k ≡ Some i → (one : Record) × (get records.items k ≡ Some one)
has_record records crossed k i home = some_of (get records.items k) (sym (crossed.placed Row k) ∙ ap is_some home)

-- ---- what changes no record
-- nothing is listed, at first
pub tied_nothing : (records : Crossed Record) (seats : Seated) → IsCrossed records → records.items.slots ≡ [] → ((c : ℕ) → seat seats c ≡ None) → IsTied records seats
unfolding owner_at
tied_nothing records seats crossed none nobody = record {
  owned = λ k. ap (option_map owner_of) (no_record_at k) ∙ sym (ap (owner_at seats) (no_home k));
  within = λ c sat. cc (sym (ap is_some (nobody c)) ∙ sat);
} where
  no_record_at : (k : ℕ) → get records.items k ≡ None
  no_record_at k = ap (λ (l : List (Option Record)). slice_index_or l k None) none

  no_home : (k : ℕ) → home_of records.columns k ≡ None
  no_home k = none_of (home_of records.columns k) (crossed.placed Column k ∙ ap is_some (no_record_at k))

-- another object, more columns or more room leave each record where it is
pub tied_grown : (records more : Crossed Record) (seats : Seated) → IsTied records seats → more.items.slots ≡ records.items.slots → ((k : ℕ) → home_of more.columns k ≡ home_of records.columns k)
    → length records.columns.chains ≤ length more.columns.chains → IsTied more seats
tied_grown records more seats tied slots homes many = record {
  owned = λ k. ap (λ (l : List (Option Record)). option_map owner_of (slice_index_or l k None)) slots ∙ tied.owned k ∙ sym (ap (owner_at seats) (homes k));
  within = λ c sat. omega (arith, tied.within c sat, many);
}

-- the same records in the same rows
pub same_rows : (records more : Crossed Record) → more.items.slots ≡ records.items.slots → more.rows ≡ records.rows → lists_in more ≡ lists_in records
unfolding at_keys record_at
same_rows records more slots rows = λ i. map (λ (keys : List ℕ). map (λ (k : ℕ). unwrap_or (slice_index_or (slots i) k None) no_record) keys) ((rows i).chains)

-- one more object has no record
pub rows_more : (records more : Crossed Record) → more.items ≡ records.items → more.rows ≡ one_chain_more records.rows → lists_in more ≡ lists_in records ++ [] ∷ []
unfolding one_chain_more at_keys
rows_more records more items rows = (λ i. map (at_keys (items i)) ((rows i).chains)) ∙ map-append (at_keys records.items) records.rows.chains ([] ∷ [])
