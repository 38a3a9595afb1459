-- One more record, in the row of its object and in the column of its owner.
use Rattle.std.proofs.Common.{◌≡◌, ℕ, suc, Bool, true, false, cond, eqb, [], ◌∷◌, ◌++◌, List, map, Option, Some, None, is_some, length, refl, sym, ap, ◌∙◌, arith}
use Rattle.std.specs.Prelude.{unwrap_or}
use Rattle.std.specs.Option.{option_map}
use Rattle.std.proofs.lemmas.Bool.{eqb-true, eqb-false, true≢false}
use Rattle.std.proofs.lemmas.List.{length-map}
use Rattle.slab.specs.Slab.{Slab, get, Updates}
use Rattle.asset_chains.specs.Chained.{chain_of, home_of, lists}
use Rattle.asset_chains.specs.declared.side.Side.TheVariants.{Row}
use Rattle.asset_chains.specs.Crossed.{Crossed, Joins, IsCrossed}
use Rattle.asset_chains.proofs.SoundLemmas.{unlisted}
use Rattle.asset_names.specs.declared.names.Txn.{Txn}
use Rattle.asset_records.specs.declared.records.Record.{Record}
use Rattle.asset_seats.specs.Seated.{Seated, seat}
use Rattle.asset_records.specs.Listed.{on, no_record, record_at, at_keys, owner_of, owner_at, somebody, IsTied, ChangesOn}
use Rattle.asset_names.proofs.Common.{none_of}
use Rattle.asset_records.proofs.ListedLemmas.{on_chain, keys_append, keys_same}

-- a record that is read where it is, and elsewhere as before
read_here : (records more : Slab Record) (k : ℕ) (update : Record) → Updates records more k (Some update) → record_at more k ≡ update
unfolding record_at
read_here records more k update put = ap (λ (o : Option Record). unwrap_or o no_record) put.changed

read_there : (records more : Slab Record) (k j : ℕ) (update : Record) → Updates records more k (Some update) → (j ≡ k → ⊥) → record_at more j ≡ record_at records j
unfolding record_at
read_there records more k j update put apart = ap (λ (o : Option Record). unwrap_or o no_record) (put.others j apart)

module _ (records more : Crossed Record) (seats : Seated) (update : Record) (t : Txn) (k i c : ℕ)
    (tied : IsTied records seats) (crossed : IsCrossed records) (whose : owner_of update ≡ Some t) (sits : seat seats c ≡ Some t) (vacant : get records.items k ≡ None)
    (put : Updates records.items more.items k (Some update)) (object : Joins i k records.rows more.rows) (owner : Joins (suc c) k records.columns more.columns) where
  pub pushed_tied : IsTied more seats
  unfolding owner_at
  pushed_tied = record {
    owned = owned;
    within = λ d sat. omega (arith, tied.within d sat, owner.many);
  } where
    owned : (j : ℕ) → option_map owner_of (get more.items j) ≡ owner_at seats (home_of more.columns j)
    owned j = go (eqb j k) refl where
      go : (b : Bool) → eqb j k ≡ b → option_map owner_of (get more.items j) ≡ owner_at seats (home_of more.columns j)
      go true e = let here : j ≡ k = eqb-true j k e in rw here (ap (option_map owner_of) put.changed ∙ ap Some whose ∙ sym (ap somebody sits) ∙ sym (ap (owner_at seats) owner.home))
      go false e = ap (option_map owner_of) (put.others j (eqb-false j k e)) ∙ tied.owned j ∙ sym (ap (owner_at seats) (owner.homes j (eqb-false j k e)))

  -- the records of the object are one more, and those of the others are the same
  pub pushed_lists : ChangesOn i (on (map (at_keys records.items) records.rows.chains) i ++ update ∷ []) (map (at_keys records.items) records.rows.chains) (map (at_keys more.items) more.rows.chains)
  unfolding ChangesOn at_keys
  pushed_lists = (many, changes) where
    many : length (map (at_keys more.items) more.rows.chains) ≡ length (map (at_keys records.items) records.rows.chains)
    many = length-map more.rows.chains (at_keys more.items) ∙ object.many ∙ sym (length-map records.rows.chains (at_keys records.items))

    free : home_of records.rows k ≡ None
    free = none_of (home_of records.rows k) (crossed.placed Row k ∙ ap is_some vacant)

    old_same : (j : ℕ) → at_keys more.items (chain_of records.rows j) ≡ at_keys records.items (chain_of records.rows j)
    old_same j = keys_same records.items more.items (chain_of records.rows j) (λ l among. read_there records.items more.items k l update put (λ is. true≢false (sym among ∙ ap (lists (chain_of records.rows j)) is ∙ unlisted records.rows (crossed.sound Row) k j free)))

    changes : (j : ℕ) → on (map (at_keys more.items) more.rows.chains) j ≡ cond (eqb i j) (on (map (at_keys records.items) records.rows.chains) i ++ update ∷ []) (on (map (at_keys records.items) records.rows.chains) j)
    changes j = on_chain more.items more.rows j ∙ go (eqb i j) refl where
      go : (b : Bool) → eqb i j ≡ b → at_keys more.items (chain_of more.rows j) ≡ cond b (on (map (at_keys records.items) records.rows.chains) i ++ update ∷ []) (on (map (at_keys records.items) records.rows.chains) j)
      go true e =
          ap (λ (n : ℕ). at_keys more.items (chain_of more.rows n)) (sym (eqb-true i j e))
          ∙ ap (at_keys more.items) object.chain
          ∙ keys_append more.items (chain_of records.rows i) (k ∷ [])
          ∙ (λ m. old_same i m ++ read_here records.items more.items k update put m ∷ [])
          ∙ ap (λ (older : List Record). older ++ update ∷ []) (sym (on_chain records.items records.rows i))
      go false e =
          ap (at_keys more.items) (object.chains j (λ same. eqb-false i j e (sym same))) ∙ old_same j ∙ sym (on_chain records.items records.rows j)
