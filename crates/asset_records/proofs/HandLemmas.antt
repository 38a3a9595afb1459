-- Records that become another transaction's, as the lists show them.
use Rattle.std.proofs.Common.{◌≡◌, ℕ, suc, ◌&&◌, Bool, true, false, cond, eqb, List, [], ◌∷◌, map, length, Option, Some, refl, sym, ap, subst, ◌∙◌, arith, inl, inr}
use Rattle.std.specs.Option.{option_map}
use Rattle.std.specs.List.{list_any}
use Rattle.std.proofs.lemmas.Bool.{eqb-true, eq-eqb, true≢false, cases_Bool, or_left, or_right, or_parts}
use Rattle.std.proofs.lemmas.List.{length-map}
use Rattle.slab.specs.Slab.{Slab, get}
use Rattle.asset_names.specs.declared.names.Txn.{Txn}
use Rattle.asset_names.proofs.Common.{one_txn}
use Rattle.asset_chains.specs.Chained.{Chained, chain_of, home_of, lists}
use Rattle.asset_chains.specs.declared.side.Side.TheVariants.{Row, Column}
use Rattle.asset_chains.specs.Crossed.{Crossed, IsCrossed}
use Rattle.asset_chains.proofs.Walks.{any_found}
use Rattle.asset_records.specs.declared.records.Record.{Record}
use Rattle.asset_records.specs.declared.records.Record.TheVariants.{Write, Add, Lasting}
use Rattle.asset_seats.specs.Seated.{Seated, seat}
use Rattle.asset_records.specs.Listed.{on, record_at, at_keys, is_of, is_owned, owner_of, owner_at, somebody, IsTied}
use Rattle.asset_records.specs.Handed.{renamed, given, is_picked, goes, picked_at, AreHanded}
use Rattle.asset_records.proofs.ListedLemmas.{on_chain, keys_same, has_record, home_of_owner, has_owned, owned_is, owner_is}
use Rattle.asset_records.proofs.DropLemmas.{read_some}

-- ---- names
-- who is not the giver keeps its records
renamed_other : (giver taker : ℕ) (one : Record) → is_of giver one ≡ false → renamed giver taker one ≡ one
unfolding renamed is_owned owner_of
renamed_other giver taker (Write owner before) apart = ap (λ (b : Bool). Write (cond b (record { 0 = taker }) owner) before) apart
renamed_other giver taker (Add owner amount) apart = ap (λ (b : Bool). Add (cond b (record { 0 = taker }) owner) amount) apart
renamed_other giver taker (Lasting amount) apart = refl

renamed_giver : (giver taker : ℕ) (one : Record) → is_of giver one ≡ true → renamed giver taker one ≡ given (record { 0 = taker }) one
unfolding renamed given is_owned owner_of
renamed_giver giver taker (Write owner before) is = ap (λ (b : Bool). Write (cond b (record { 0 = taker }) owner) before) is
renamed_giver giver taker (Add owner amount) is = ap (λ (b : Bool). Add (cond b (record { 0 = taker }) owner) amount) is
renamed_giver giver taker (Lasting amount) is = refl

same_owner : (t u : ℕ) → t ≡ u → (owner : Txn) → cond (eqb owner.0 u) (record { 0 = t }) owner ≡ owner
same_owner t u same owner = go (eqb owner.0 u) refl where
  go : (b : Bool) → eqb owner.0 u ≡ b → cond b (record { 0 = t }) owner ≡ owner
  go true is = λ i. record { 0 = (same ∙ sym (eqb-true owner.0 u is)) i }
  go false other = refl

renamed_same : (t u : ℕ) → t ≡ u → (one : Record) → renamed u t one ≡ one
unfolding renamed
renamed_same t u same (Write owner before) = ap (λ (who : Txn). Write who before) (same_owner t u same owner)
renamed_same t u same (Add owner amount) = ap (λ (who : Txn). Add who amount) (same_owner t u same owner)
renamed_same t u same (Lasting amount) = refl

map_same_all : (f : Record → Record) → ((one : Record) → f one ≡ one) → (xs : List Record) → map f xs ≡ xs
map_same_all f same [] = refl
map_same_all f same (x ∷ xs) = λ i. same x i ∷ map_same_all f same xs i

either_same : (b : Bool) (xs ys : List Record) → ys ≡ xs → xs ≡ cond b ys xs
either_same true xs ys same = sym same
either_same false xs ys same = refl

-- nothing changes if both are one
pub same_list : (t u : ℕ) → t ≡ u → (b : Bool) (xs : List Record) → xs ≡ cond b (map (renamed u t) xs) xs
same_list t u same b xs = either_same b xs (map (renamed u t) xs) (map_same_all (renamed u t) (renamed_same t u same) xs)

-- or if no record is the giver's
pub none_given : (giver taker : ℕ) (b : Bool) (xs : List Record) → list_any (is_of giver) xs ≡ false → xs ≡ cond b (map (renamed giver taker) xs) xs
none_given giver taker b xs none = either_same b xs (map (renamed giver taker) xs) (same xs none) where
  same : (xs : List Record) → list_any (is_of giver) xs ≡ false → map (renamed giver taker) xs ≡ xs
  same [] none = refl
  same (one ∷ xs) none = let parts = or_parts (is_of giver one) (list_any (is_of giver) xs) none in λ i. renamed_other giver taker one parts.0 i ∷ same xs parts.1 i

-- ---- the lists
keys_mapped : (f : Record → Record) (old new : Slab Record) (keys : List ℕ) → ((k : ℕ) → lists keys k ≡ true → record_at new k ≡ f (record_at old k)) → at_keys new keys ≡ map f (at_keys old keys)
unfolding at_keys
keys_mapped f old new [] same = refl
keys_mapped f old new (k ∷ keys) same = λ i. same k (or_left (eqb k k) (lists keys k) (eq-eqb k k refl)) i ∷ keys_mapped f old new keys (λ l among. same l (or_right (eqb l k) (lists keys l) among)) i

-- the columns are those of the seats
pub hands_by : (records more : Crossed Record) (picks : ℕ → Bool) (taker : Txn) (from to f t : ℕ) → f ≡ suc from → t ≡ suc to
    → AreHanded (chain_of records.columns f) (picked_at picks records) f t taker records more → AreHanded (chain_of records.columns (suc from)) (picked_at picks records) (suc from) (suc to) taker records more
hands_by records more picks taker from to f t from_is to_is hands =
    subst (λ (n : ℕ). AreHanded (chain_of records.columns n) (picked_at picks records) n (suc to) taker records more) from_is (subst (λ (n : ℕ). AreHanded (chain_of records.columns f) (picked_at picks records) f n taker records more) to_is hands)

-- the records of the one who has the seat `from` went over
module _ (records more : Crossed Record) (seats : Seated) (picks : ℕ → Bool) (from : ℕ) (giver taker : Txn) (tied : IsTied records seats) (crossed : IsCrossed records)
    (sat : seat seats from ≡ Some giver) (alone : (d : ℕ) → seat seats d ≡ Some giver → d ≡ from) (to : ℕ) (hands : AreHanded (chain_of records.columns (suc from)) (picked_at picks records) (suc from) (suc to) taker records more) where
  -- a record is in this column exactly if it is the giver's
  in_column : (k : ℕ) (one : Record) → get records.items k ≡ Some one → lists (chain_of records.columns (suc from)) k ≡ is_of giver.0 one
  in_column k one there = elim (cases_Bool (is_of giver.0 one)) [
    | inl is ↦
        let whose = owner_is (λ (n : ℕ). eqb n giver.0) one is in
        let at = home_of_owner records seats tied k one whose.0 there whose.1 in
        let here = alone at.0 (at.2 ∙ ap Some (one_txn whose.0 giver (eqb-true whose.0.0 giver.0 whose.2))) in
        (crossed.sound Column).listed (suc from) k (at.1 ∙ ap (λ (c : ℕ). Some (suc c)) here) ∙ sym is
    | inr other ↦ elim (cases_Bool (lists (chain_of records.columns (suc from)) k)) [
      | inl among ↦
          let held = has_owned records seats tied k from giver ((crossed.sound Column).at_home (suc from) k among) sat in
          let same : Some one ≡ Some held.0 = sym there ∙ held.1 in
          let is : one ≡ held.0 = cc same in
          absurd (true≢false (sym (ap (is_of giver.0) is ∙ owned_is (λ (n : ℕ). eqb n giver.0) held.0 giver held.2 ∙ eq-eqb giver.0 giver.0 refl) ∙ other))
      | inr not_there ↦ not_there ∙ sym other
    ]
  ]

  -- on an object that is picked and has a record of the giver's, a record goes
  pub some_goes : (j : ℕ) → picks j ≡ true → list_any (is_of giver.0) (on (map (at_keys records.items) records.rows.chains) j) ≡ true → (k : ℕ) × (goes (chain_of records.columns (suc from)) (picked_at picks records) k ≡ true)
  unfolding at_keys goes picked_at
  some_goes j picked there = (found.0, (λ i. (here i && (ap (is_picked picks) home ∙ picked) i))) where
    found : (k : ℕ) × (lists (chain_of records.rows j) k ≡ true) × (is_of giver.0 (record_at records.items k) ≡ true)
    found = any_found (is_of giver.0) (record_at records.items) (chain_of records.rows j) (sym (ap (list_any (is_of giver.0)) (on_chain records.items records.rows j)) ∙ there)

    home : home_of records.rows found.0 ≡ Some j
    home = (crossed.sound Row).at_home j found.0 found.1

    held : (one : Record) × (get records.items found.0 ≡ Some one)
    held = has_record records crossed found.0 j home

    here : lists (chain_of records.columns (suc from)) found.0 ≡ true
    here = in_column found.0 held.0 held.1 ∙ sym (ap (is_of giver.0) (read_some records.items found.0 held.0 held.1)) ∙ found.2

  -- the record at a key of an object's row
  read : (j k : ℕ) → home_of records.rows k ≡ Some j → record_at more.items k ≡ cond (picks j) (renamed giver.0 taker.0 (record_at records.items k)) (record_at records.items k)
  unfolding goes picked_at
  read j k home = by held.0 held.1 where
    held : (one : Record) × (get records.items k ≡ Some one)
    held = has_record records crossed k j home

    by : (one : Record) → get records.items k ≡ Some one → record_at more.items k ≡ cond (picks j) (renamed giver.0 taker.0 (record_at records.items k)) (record_at records.items k)
    by one there = go (picks j) (is_of giver.0 one) refl refl where
      goes_is : goes (chain_of records.columns (suc from)) (picked_at picks records) k ≡ (is_of giver.0 one && picks j)
      goes_is = λ i. (in_column k one there i && is_picked picks (home i))

      here : (b : Bool) → goes (chain_of records.columns (suc from)) (picked_at picks records) k ≡ b → get more.items k ≡ cond b (Some (given taker one)) (Some one)
      here true e = hands.items k ∙ (λ i. cond (e i) (option_map (given taker) (there i)) (there i))
      here false e = hands.items k ∙ (λ i. cond (e i) (option_map (given taker) (there i)) (there i))

      was : record_at records.items k ≡ one
      was = read_some records.items k one there

      go : (p o : Bool) → picks j ≡ p → is_of giver.0 one ≡ o → record_at more.items k ≡ cond p (renamed giver.0 taker.0 (record_at records.items k)) (record_at records.items k)
      go true true picked is =
          read_some more.items k (given taker one) (here true (goes_is ∙ (λ i. (is i && picked i))))
          ∙ sym (ap (renamed giver.0 taker.0) was ∙ renamed_giver giver.0 taker.0 one is)
      go true false picked other = read_some more.items k one (here false (goes_is ∙ (λ i. (other i && picked i)))) ∙ sym (ap (renamed giver.0 taker.0) was ∙ renamed_other giver.0 taker.0 one other)
      go false true left is = read_some more.items k one (here false (goes_is ∙ (λ i. (is i && left i)))) ∙ sym was
      go false false left other = read_some more.items k one (here false (goes_is ∙ (λ i. (other i && left i)))) ∙ sym was

  -- the records of each object
  pub on_each : (j : ℕ) → on (map (at_keys more.items) more.rows.chains) j
      ≡ cond (picks j) (map (renamed giver.0 taker.0) (on (map (at_keys records.items) records.rows.chains) j)) (on (map (at_keys records.items) records.rows.chains) j)
  on_each j = ap (λ (table : Chained). on (map (at_keys more.items) table.chains) j) hands.rows ∙ on_chain more.items records.rows j ∙ go (picks j) refl where
    at : (k : ℕ) → lists (chain_of records.rows j) k ≡ true → record_at more.items k ≡ cond (picks j) (renamed giver.0 taker.0 (record_at records.items k)) (record_at records.items k)
    at k among = read j k ((crossed.sound Row).at_home j k among)

    go : (p : Bool) → picks j ≡ p → at_keys more.items (chain_of records.rows j)
        ≡ cond p (map (renamed giver.0 taker.0) (on (map (at_keys records.items) records.rows.chains) j)) (on (map (at_keys records.items) records.rows.chains) j)
    go true picked =
        keys_mapped (renamed giver.0 taker.0) records.items more.items (chain_of records.rows j) (λ k among. at k among ∙ ap (λ (b : Bool). cond b (renamed giver.0 taker.0 (record_at records.items k)) (record_at records.items k)) picked)
        ∙ sym (ap (map (renamed giver.0 taker.0)) (on_chain records.items records.rows j))
    go false left =
        keys_same records.items more.items (chain_of records.rows j) (λ k among. at k among ∙ ap (λ (b : Bool). cond b (renamed giver.0 taker.0 (record_at records.items k)) (record_at records.items k)) left)
        ∙ sym (on_chain records.items records.rows j)

  pub same_many : length (map (at_keys more.items) more.rows.chains) ≡ length (map (at_keys records.items) records.rows.chains)
  same_many = length-map more.rows.chains (at_keys more.items) ∙ ap (λ (table : Chained). length table.chains) hands.rows ∙ sym (length-map records.rows.chains (at_keys records.items))

  -- each record that went is in the column of the taker's seat
  pub handed_tied : seat seats to ≡ Some taker → IsTied more seats
  unfolding owner_at goes given owner_of
  handed_tied sits = record {
    owned = owned;
    within = λ c taken. omega (arith, tied.within c taken, hands.many);
  } where
    first_of_both : (a b : Bool) → (a && b) ≡ true → a ≡ true
    first_of_both true b h = refl
    first_of_both false b h = h

    given_to : (one : Record) → owner_of one ≡ Some giver → owner_of (given taker one) ≡ Some taker
    given_to (Write owner before) is = refl
    given_to (Add owner amount) is = refl
    given_to (Lasting amount) is = cc is

    whose : (k : ℕ) → goes (chain_of records.columns (suc from)) (picked_at picks records) k ≡ true → option_map owner_of (option_map (given taker) (get records.items k)) ≡ Some (Some taker)
    whose k e =
        let among = first_of_both (lists (chain_of records.columns (suc from)) k) (picked_at picks records k) e in
        let held = has_owned records seats tied k from giver ((crossed.sound Column).at_home (suc from) k among) sat in
        ap (λ (o : Option Record). option_map owner_of (option_map (given taker) o)) held.1 ∙ ap Some (given_to held.0 held.2)

    owned : (k : ℕ) → option_map owner_of (get more.items k) ≡ owner_at seats (home_of more.columns k)
    owned k = ap (option_map owner_of) (hands.items k) ∙ go (goes (chain_of records.columns (suc from)) (picked_at picks records) k) refl ∙ sym (ap (owner_at seats) (hands.homes k)) where
      go : (b : Bool) → goes (chain_of records.columns (suc from)) (picked_at picks records) k ≡ b
          → option_map owner_of (cond b (option_map (given taker) (get records.items k)) (get records.items k)) ≡ owner_at seats (cond b (Some (suc to)) (home_of records.columns k))
      go true e = whose k e ∙ sym (ap somebody sits)
      go false e = tied.owned k
