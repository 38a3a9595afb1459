-- Columns without records, and how many have one.
use Rattle.std.proofs.Common.{◌≡◌, ℕ, zero, suc, ◌+◌, ◌<◌, ◌≤◌, ◌||◌, Bool, true, false, cond, eqb, List, [], ◌∷◌, length, get_or, Option, Some, None, is_some, refl, sym, ap, ◌∙◌, arith}
use Rattle.std.specs.Prelude.{is_none, count_by}
use Rattle.std.proofs.lemmas.Bool.{eq-eqb, true≢false}
use Rattle.std.proofs.lemmas.List.Sums.{sum_by-cons}
use Rattle.std.proofs.lemmas.Map.Steps.{le-length_from_below}
use Rattle.slab.specs.Slab.{slab_len}
use Rattle.asset_names.proofs.Common.{some_of}
use Rattle.asset_chains.specs.Chained.{Chained, chain_of, home_of, first_of, lists}
use Rattle.asset_chains.specs.declared.side.Side.TheVariants.{Column}
use Rattle.asset_chains.specs.Crossed.{Crossed, IsCrossed}
use Rattle.asset_chains.proofs.Laws.{chain_at_first}
use Rattle.asset_chains.proofs.KeyLemmas.{first_is_some}
use Rattle.asset_seats.specs.Seated.{Seated, seat}
use Rattle.asset_records.specs.declared.records.Record.{Record}
use Rattle.asset_records.specs.Listed.{IsTied}
use Rattle.asset_records.proofs.BackLemmas.{left_tied}

-- the seat of a column, and the first one for the column of nobody
seat_of : Option ℕ → ℕ
seat_of None = 0
seat_of (Some zero) = 0
seat_of (Some (suc c)) = c

-- the seats of the records in these slots, the first of which has this key
homes_from : Chained → ℕ → List (Option Record) → List ℕ
homes_from table k [] = []
homes_from table k (None ∷ slots) = homes_from table (k + 1) slots
homes_from table k (Some one ∷ slots) = seat_of (home_of table k) ∷ homes_from table (k + 1) slots

homes_many : (table : Chained) (k : ℕ) (slots : List (Option Record)) → length (homes_from table k slots) ≡ count_by is_some slots
unfolding homes_from
homes_many table k [] = refl
homes_many table k (None ∷ slots) = omega (arith, homes_many table (k + 1) slots, sum_by-cons (λ (o : Option Record). cond {A = ℕ} (is_some o) 1 0) None slots)
homes_many table k (Some one ∷ slots) = omega (arith, homes_many table (k + 1) slots, sum_by-cons (λ (o : Option Record). cond {A = ℕ} (is_some o) 1 0) (Some one) slots)

or_second : (a b : Bool) → b ≡ true → (a || b) ≡ true
or_second true b h = refl
or_second false b h = h

home_listed : (table : Chained) (k : ℕ) (slots : List (Option Record)) (j c : ℕ) → is_some (get_or slots j None) ≡ true → home_of table (k + j) ≡ Some (suc c) → lists (homes_from table k slots) c ≡ true
unfolding homes_from seat_of
home_listed table k [] j c there home = absurd (true≢false (sym there))
home_listed table k (None ∷ slots) zero c there home = absurd (true≢false (sym there))
home_listed table k (None ∷ slots) (suc j) c there home = home_listed table (k + 1) slots j c there (ap (home_of table) (omega arith) ∙ home)
home_listed table k (Some one ∷ slots) zero c there home =
    let here : home_of table k ≡ Some (suc c) = ap (home_of table) (omega arith) ∙ home in
    ap (λ (b : Bool). b || lists (homes_from table (k + 1) slots) c) (eq-eqb c (seat_of (home_of table k)) (sym (ap seat_of here)))
home_listed table k (Some one ∷ slots) (suc j) c there home =
    or_second (eqb c (seat_of (home_of table k))) (lists (homes_from table (k + 1) slots) c) (home_listed table (k + 1) slots j c there (ap (home_of table) (omega arith) ∙ home))

not_none : (o : Option ℕ) → is_none o ≡ false → is_some o ≡ true
not_none None h = absurd (true≢false h)
not_none (Some k) h = refl

listed_length : (keys : List ℕ) (k : ℕ) → lists keys k ≡ true → 1 ≤ length keys
listed_length [] k among = absurd (true≢false (sym among))
listed_length (x ∷ keys) k among = omega arith

module _ (records : Crossed Record) (crossed : IsCrossed records) where
  column_listed : (c : ℕ) → is_none (first_of (chain_of records.columns (suc c))) ≡ false → lists (homes_from records.columns 0 records.items.slots) c ≡ true
  column_listed c full =
      let first = some_of (first_of (chain_of records.columns (suc c))) (not_none (first_of (chain_of records.columns (suc c))) full) in
      let home = (chain_at_first first.0 (suc c) records.columns (crossed.sound Column) first.1).0 in
      home_listed records.columns 0 records.items.slots first.0 c (sym (crossed.placed Column first.0) ∙ ap is_some home) (ap (home_of records.columns) (omega arith) ∙ home)

  -- if a column has a record, there is one
  pub some_column : (c : ℕ) → is_none (first_of (chain_of records.columns (suc c))) ≡ false → 1 ≤ slab_len records.items
  some_column c full = omega (arith, listed_length (homes_from records.columns 0 records.items.slots) c (column_listed c full), homes_many records.columns 0 records.items.slots)

  -- if each column below a number has a record, there are as many records
  pub few_columns : (n : ℕ) → ((c : ℕ) → c < n → is_none (first_of (chain_of records.columns (suc c))) ≡ false) → n ≤ slab_len records.items
  few_columns n full =
      omega (arith, le-length_from_below (homes_from records.columns 0 records.items.slots) n (λ c within. column_listed c (full c within)), homes_many records.columns 0 records.items.slots)

-- whoever has the seat of a column without records may leave it
pub clears_tied : (records : Crossed Record) (seats left : Seated) (at : ℕ) → IsTied records seats → IsCrossed records → is_none (first_of (chain_of records.columns (suc at))) ≡ true → ((c : ℕ) → seat left c ≡ cond (eqb c at) None (seat seats c))
    → IsTied records left
clears_tied records seats left at tied crossed empty leaves = left_tied records seats left at tied apart leaves where
  none_first : (o : Option ℕ) → is_none o ≡ true → is_some o ≡ true → ⊥
  none_first None h some = true≢false (sym some)
  none_first (Some k) h some = true≢false (sym h)

  apart : (k c : ℕ) → home_of records.columns k ≡ Some (suc c) → c ≡ at → ⊥
  apart k c home same =
      none_first (first_of (chain_of records.columns (suc at))) empty
      (ap (λ (n : ℕ). is_some (first_of (chain_of records.columns (suc n)))) (sym same) ∙ first_is_some (chain_of records.columns (suc c)) k ((crossed.sound Column).listed (suc c) k home))
