-- How many records a transaction has: as many as are in the column of its seat.
use Rattle.std.proofs.Common.{◌≡◌, ℕ, zero, suc, ◌+◌, ◌≤◌, ◌||◌, Bool, true, false, cond, eqb, List, [], ◌∷◌, ◌++◌, map, length, get_or, Some, is_some, refl, sym, ap, ◌∙◌, arith}
use Rattle.std.specs.List.{IsDistinct, count_by}
use Rattle.std.proofs.lemmas.Bool.{eq-eqb, ne_eqb, true≢false, or_left, or_right}
use Rattle.std.proofs.lemmas.List.Sums.{sum_by-cons}
use Rattle.slab.specs.Slab.{Slab}
use Rattle.asset_names.specs.declared.names.Txn.{Txn}
use Rattle.asset_names.proofs.Common.{some_of}
use Rattle.asset_chains.specs.Chained.{chain_of, home_of, ahead, behind, lists}
use Rattle.asset_chains.specs.declared.side.Side.TheVariants.{Row, Column}
use Rattle.asset_chains.specs.Crossed.{Crossed, IsCrossed}
use Rattle.asset_chains.proofs.KeyLemmas.{distinct_head, distinct_tail, listed_apart, lists-append, split_at_key}
use Rattle.asset_records.specs.declared.records.Record.{Record}
use Rattle.asset_seats.specs.Seated.{Seated, seat}
use Rattle.asset_records.specs.Listed.{record_at, at_keys, is_of, is_owned, records_by, IsTied}
use Rattle.asset_records.proofs.ListedLemmas.{has_owned, owned_is}
use Rattle.asset_records.proofs.DropLemmas.{read_some}

-- how many of the keys pass
abbrev passing : (ℕ → Bool) → List ℕ → ℕ
passing test [] = 0
passing test (k ∷ keys) = cond (test k) 1 0 + passing test keys

passing_append : (test : ℕ → Bool) (xs ys : List ℕ) → passing test (xs ++ ys) ≡ passing test xs + passing test ys
passing_append test [] ys = omega arith
passing_append test (x ∷ xs) ys = omega (arith, passing_append test xs ys)

-- a key that is listed is listed without another
listed_still : (k j : ℕ) (all : List ℕ) → lists all k ≡ true → eqb j k ≡ false → lists all j ≡ true → lists (ahead k all ++ behind k all) j ≡ true
listed_still k j all there apart among =
    lists-append (ahead k all) (behind k all) j
    ∙ sym (skip (lists (ahead k all) j) (eqb j k) (lists (behind k all) j) apart)
    ∙ sym (lists-append (ahead k all) (k ∷ behind k all) j)
    ∙ sym (ap (λ (l : List ℕ). lists l j) (split_at_key k all there))
    ∙ among where
      skip : (a b c : Bool) → b ≡ false → (a || (b || c)) ≡ (a || c)
      skip a true c h = absurd (true≢false h)
      skip a false c h = refl

-- different keys that are listed and pass are no more than those that pass
few_pass : (test : ℕ → Bool) (keys all : List ℕ) → IsDistinct eqb keys → ((k : ℕ) → lists keys k ≡ true → (lists all k ≡ true) × (test k ≡ true)) → length keys ≤ passing test all
few_pass test [] all distinct each = omega arith
few_pass test (k ∷ keys) all distinct each =
    omega (
      arith,
      few_pass test keys (ahead k all ++ behind k all) (distinct_tail k keys distinct) later,
      ap (passing test) (split_at_key k all here.0),
      passing_append test (ahead k all) (k ∷ behind k all),
      passing_append test (ahead k all) (behind k all),
      ap (λ (b : Bool). cond {A = ℕ} b 1 0) here.1,
    ) where
      here : (lists all k ≡ true) × (test k ≡ true)
      here = each k (or_left (eqb k k) (lists keys k) (eq-eqb k k refl))

      later : (j : ℕ) → lists keys j ≡ true → (lists (ahead k all ++ behind k all) j ≡ true) × (test j ≡ true)
      later j among =
          let at = each j (or_right (eqb j k) (lists keys j) among) in
          (listed_still k j all here.0 (ne_eqb j k (listed_apart keys j k among (distinct_head k keys distinct))) at.0, at.1)

-- the keys of all rows
abbrev joined : List (List ℕ) → List ℕ
joined [] = []
joined (keys ∷ rows) = keys ++ joined rows

or_second : (a b : Bool) → b ≡ true → (a || b) ≡ true
or_second true b h = refl
or_second false b h = h

listed_joined : (rows : List (List ℕ)) (i k : ℕ) → lists (get_or rows i []) k ≡ true → lists (joined rows) k ≡ true
listed_joined [] i k among = absurd (true≢false (sym among))
listed_joined (keys ∷ rows) zero k among = lists-append keys (joined rows) k ∙ or_left (lists keys k) (lists (joined rows) k) among
listed_joined (keys ∷ rows) (suc i) k among = lists-append keys (joined rows) k ∙ or_second (lists keys k) (lists (joined rows) k) (listed_joined rows i k among)

owned_in : (records : Slab Record) (test : ℕ → Bool) (keys : List ℕ) → count_by (is_owned test) (at_keys records keys) ≡ passing (λ k. is_owned test (record_at records k)) keys
unfolding at_keys
owned_in records test [] = refl
owned_in records test (k ∷ keys) =
    sum_by-cons (λ (one : Record). cond (is_owned test one) 1 0) (record_at records k) (map (record_at records) keys) ∙ ap (λ (n : ℕ). cond (is_owned test (record_at records k)) 1 0 + n) (owned_in records test keys)

owned_in_all : (records : Slab Record) (test : ℕ → Bool) (rows : List (List ℕ)) → records_by test (map (at_keys records) rows) ≡ passing (λ k. is_owned test (record_at records k)) (joined rows)
unfolding records_by
owned_in_all records test [] = refl
owned_in_all records test (keys ∷ rows) =
    omega (
      arith,
      sum_by-cons (λ (list : List Record). count_by (is_owned test) list) (at_keys records keys) (map (at_keys records) rows),
      owned_in records test keys,
      owned_in_all records test rows,
      passing_append (λ k. is_owned test (record_at records k)) keys (joined rows),
    )

module _ (records : Crossed Record) (seats : Seated) (from : ℕ) (giver : Txn) (tied : IsTied records seats) (crossed : IsCrossed records) (sat : seat seats from ≡ Some giver) where
  owned_here : (k : ℕ) → lists (chain_of records.columns (suc from)) k ≡ true → (lists (joined records.rows.chains) k ≡ true) × (is_of giver.0 (record_at records.items k) ≡ true)
  unfolding chain_of
  owned_here k among =
      let held = has_owned records seats tied k from giver ((crossed.sound Column).at_home (suc from) k among) sat in
      let place = some_of (home_of records.rows k) (crossed.placed Row k ∙ ap is_some held.1) in (
        listed_joined records.rows.chains place.0 k ((crossed.sound Row).listed place.0 k place.1),
        ap (is_of giver.0) (read_some records.items k held.0 held.1) ∙ owned_is (λ (n : ℕ). eqb n giver.0) held.0 giver held.2 ∙ eq-eqb giver.0 giver.0 refl,
      )

  -- the records in a transaction's column are no more than its records
  pub column_count : length (chain_of records.columns (suc from)) ≤ records_by (λ (n : ℕ). eqb n giver.0) (map (at_keys records.items) records.rows.chains)
  column_count =
      omega (
        arith,
        few_pass (λ k. is_of giver.0 (record_at records.items k)) (chain_of records.columns (suc from)) (joined records.rows.chains) ((crossed.sound Column).once (suc from)) owned_here,
        owned_in_all records.items (λ n. eqb n giver.0) records.rows.chains,
      )
