-- The table of transactions after a change, name by name.
use Rattle.std.proofs.Common.{◌≡◌, ℕ, Bool, true, false, cond, eqb, ◌&&◌, ◌||◌, List, [], ◌∷◌, ◌++◌, refl, sym, ◌∙◌, ap, subst, arith, Some, None}
use Rattle.std.specs.Prelude.{Option, is_some, sum_by}
use Rattle.std.specs.Option.{option_or}
use Rattle.asset_names.proofs.RoomLemmas.{sum_same}
use Rattle.std.specs.Map.{lookup, values_of}
use Rattle.std.proofs.lemmas.List.{map-append}
use Rattle.std.proofs.lemmas.List.Sums.{sum_by-cons}
use Rattle.std.proofs.lemmas.Bool.{eqb-true, eq-eqb, ne_eqb, false≢true}
use Rattle.asset_names.specs.declared.names.Txn.{Txn}
use Rattle.asset_names.specs.declared.statuses.Status.{Status}
use Rattle.asset_names.specs.declared.statuses.Status.TheVariants as Status'
use Rattle.asset_names.specs.Arrows.{lists}
use Rattle.asset_names.specs.Orderly.{Distinct}
use Rattle.asset_names.proofs.Common.{eqb-flip, cond_same, option_or_none}
use Rattle.asset_trans.specs.declared.row.TransRow.{TransRow}
use Rattle.asset_trans.specs.TransRows.{NamedTransRow, names_of, row_in, status_or_unknown, parent_or_none, status_in, parent_in, seat_in, seat_or_zero, initiate_in, set_entry, set_in}

-- setting statuses leaves the names
pub names_set : (test : ℕ → Bool) (status : Status) (rows : List NamedTransRow) → names_of (set_in test status rows) ≡ names_of rows
unfolding names_of set_in set_entry
names_set test status [] = refl
names_set test status (entry ∷ rows) = go (test entry.0.0) (names_set test status rows) where
  go : (b : Bool) → names_of (set_in test status rows) ≡ names_of rows → (cond b (entry.0, record entry.1 { status = status }) entry).0.0 ∷ names_of (set_in test status rows) ≡ entry.0.0 ∷ names_of rows
  go true ih = ap (λ ns. entry.0.0 ∷ ns) ih
  go false ih = ap (λ ns. entry.0.0 ∷ ns) ih

-- a row with another status, if there is one
unfoldable pub set_row : Status → Option TransRow → Option TransRow
set_row status None = None
set_row status (Some row) = Some (record row { status = status })

-- the row of a name, after statuses were set
row_set : (test : ℕ → Bool) (status : Status) (rows : List NamedTransRow) (n : ℕ) →
    row_in (set_in test status rows) n ≡ cond (test n) (set_row status (row_in rows n)) (row_in rows n)
unfolding row_in set_in set_entry set_row
row_set test status [] n = sym (cond_same (test n) None)
row_set test status (entry ∷ rows) n = go (test entry.0.0) refl (eqb n entry.0.0) refl (row_set test status rows n) where
  go : (b : Bool) → test entry.0.0 ≡ b → (here : Bool) → eqb n entry.0.0 ≡ here
      → row_in (set_in test status rows) n ≡ cond (test n) (set_row status (row_in rows n)) (row_in rows n)
      → lookup (λ (name : Txn). eqb n name.0) (cond b (entry.0, record entry.1 { status = status }) entry ∷ set_in test status rows)
      ≡ cond (test n) (set_row status (cond here (Some entry.1) (row_in rows n))) (cond here (Some entry.1) (row_in rows n))
  go true e false h ih = rw h ih
  go false e false h ih = rw h ih
  go true e true h ih = rw (h, eqb-true n entry.0.0 h, e) refl
  go false e true h ih = rw (h, eqb-true n entry.0.0 h, e) refl

pub status_set : (test : ℕ → Bool) (status : Status) (rows : List NamedTransRow) (n : ℕ) →
    status_in (set_in test status rows) n ≡ cond (test n && is_some (row_in rows n)) status (status_in rows n)
unfolding status_in status_or_unknown set_row
status_set test status rows n = rw (row_set test status rows n) (go (test n) (row_in rows n)) where
  go : (b : Bool) (row : Option TransRow) → status_or_unknown (cond b (set_row status row) row) ≡ cond (b && is_some row) status (status_or_unknown row)
  go true (Some row) = refl
  go true None = refl
  go false row = refl

pub parent_set : (test : ℕ → Bool) (status : Status) (rows : List NamedTransRow) (n : ℕ) → parent_in (set_in test status rows) n ≡ parent_in rows n
unfolding parent_in parent_or_none set_row
parent_set test status rows n = rw (row_set test status rows n) (go (test n) (row_in rows n)) where
  go : (b : Bool) (row : Option TransRow) → parent_or_none (cond b (set_row status row) row) ≡ parent_or_none row
  go true (Some row) = refl
  go true None = refl
  go false row = refl

pub seat_set : (test : ℕ → Bool) (status : Status) (rows : List NamedTransRow) (n : ℕ) → seat_in (set_in test status rows) n ≡ seat_in rows n
unfolding seat_in seat_or_zero set_row
seat_set test status rows n = rw (row_set test status rows n) (go (test n) (row_in rows n)) where
  go : (b : Bool) (row : Option TransRow) → seat_or_zero (cond b (set_row status row) row) ≡ seat_or_zero row
  go true (Some row) = refl
  go true None = refl
  go false row = refl

-- one more row
pub names_initiate : (rows : List NamedTransRow) (t : Txn) (parent : Option Txn) (seat : ℕ) → names_of (initiate_in rows t parent seat) ≡ names_of rows ++ t.0 ∷ []
unfolding names_of initiate_in
names_initiate rows t parent seat = map-append (λ (entry : NamedTransRow). entry.0.0) rows _

-- the row of a name, after one more row at the end
row_pushed : (rows : List NamedTransRow) (t : Txn) (row : TransRow) (n : ℕ) → row_in (rows ++ (t, row) ∷ []) n ≡ option_or (row_in rows n) (cond (eqb n t.0) (Some row) None)
unfolding row_in
row_pushed [] t row n = refl
row_pushed (entry ∷ rows) t row n = go (eqb n entry.0.0) (row_pushed rows t row n) where
  go : (here : Bool) → row_in (rows ++ (t, row) ∷ []) n ≡ option_or (row_in rows n) (cond (eqb n t.0) (Some row) None)
      → cond here (Some entry.1) (row_in (rows ++ (t, row) ∷ []) n) ≡ option_or (cond here (Some entry.1) (row_in rows n)) (cond (eqb n t.0) (Some row) None)
  go true ih = refl
  go false ih = ih

pub row_initiate : (rows : List NamedTransRow) (t : Txn) (parent : Option Txn) (seat : ℕ) (n : ℕ) → row_in rows t.0 ≡ None
    → row_in (initiate_in rows t parent seat) n ≡ cond (eqb t.0 n) (Some (record { status = Status'.Initiated; parent = parent; seat = seat })) (row_in rows n)
unfolding initiate_in
row_initiate rows t parent seat n new = row_pushed rows t _ n ∙ rw (eqb-flip n t.0) (go (eqb t.0 n) refl) where
  new_row : TransRow
  new_row = record { status = Status'.Initiated; parent = parent; seat = seat }

  go : (same : Bool) → eqb t.0 n ≡ same → option_or (row_in rows n) (cond same (Some new_row) None) ≡ cond same (Some new_row) (row_in rows n)
  go true e = rw (subst (λ m. row_in rows m ≡ None) (eqb-true t.0 n e) new) refl
  go false e = option_or_none (row_in rows n)

pub status_initiate_in : (rows : List NamedTransRow) (t : Txn) (parent : Option Txn) (seat : ℕ) (n : ℕ) → row_in rows t.0 ≡ None
    → status_in (initiate_in rows t parent seat) n ≡ cond (eqb t.0 n) Status'.Initiated (status_in rows n)
unfolding status_in status_or_unknown
status_initiate_in rows t parent seat n new = rw (row_initiate rows t parent seat n new) (go (eqb t.0 n) (row_in rows n)) where
  go : (same : Bool) (row : Option TransRow) → status_or_unknown (cond same (Some (record { status = Status'.Initiated; parent = parent; seat = seat })) row) ≡ cond same Status'.Initiated (status_or_unknown row)
  go true row = refl
  go false row = refl

pub parent_initiate_in : (rows : List NamedTransRow) (t : Txn) (parent : Option Txn) (seat : ℕ) (n : ℕ) → row_in rows t.0 ≡ None
    → parent_in (initiate_in rows t parent seat) n ≡ cond (eqb t.0 n) parent (parent_in rows n)
unfolding parent_in parent_or_none
parent_initiate_in rows t parent seat n new = rw (row_initiate rows t parent seat n new) (go (eqb t.0 n) (row_in rows n)) where
  go : (same : Bool) (row : Option TransRow) → parent_or_none (cond same (Some (record { status = Status'.Initiated; parent = parent; seat = seat })) row) ≡ cond same parent (parent_or_none row)
  go true row = refl
  go false row = refl

pub seat_initiate_in : (rows : List NamedTransRow) (t : Txn) (parent : Option Txn) (seat : ℕ) (n : ℕ) → row_in rows t.0 ≡ None
    → seat_in (initiate_in rows t parent seat) n ≡ cond (eqb t.0 n) seat (seat_in rows n)
unfolding seat_in seat_or_zero
seat_initiate_in rows t parent seat n new = rw (row_initiate rows t parent seat n new) (go (eqb t.0 n) (row_in rows n)) where
  go : (same : Bool) (row : Option TransRow) → seat_or_zero (cond same (Some (record { status = Status'.Initiated; parent = parent; seat = seat })) row) ≡ cond same seat (seat_or_zero row)
  go true row = refl
  go false row = refl

-- who has a row is named, and who is named has a row
pub row_named : (rows : List NamedTransRow) (n : ℕ) → is_some (row_in rows n) ≡ lists (names_of rows) n
unfolding row_in names_of lists
row_named [] n = refl
row_named (entry ∷ rows) n = rw (eqb-flip n entry.0.0) (go (eqb entry.0.0 n) (row_named rows n)) where
  go : (here : Bool) → is_some (row_in rows n) ≡ lists (names_of rows) n → is_some (cond here (Some entry.1) (row_in rows n)) ≡ (here || lists (names_of rows) n)
  go true ih = refl
  go false ih = ih

pub row_absent : (rows : List NamedTransRow) (n : ℕ) → lists (names_of rows) n ≡ false → row_in rows n ≡ None
row_absent rows n absent = go (row_in rows n) refl where
  go : (row : Option TransRow) → row_in rows n ≡ row → row ≡ None
  go None e = refl
  go (Some row) e = absurd (false≢true (sym absent ∙ sym (row_named rows n) ∙ ap is_some e))

-- the status of a name behind another
status_behind : (entry : NamedTransRow) (rows : List NamedTransRow) (n : ℕ) → eqb n entry.0.0 ≡ false → status_in (entry ∷ rows) n ≡ status_in rows n
unfolding status_in row_in
status_behind entry rows n other = rw other refl

-- the status of the first name
status_here : (entry : NamedTransRow) (rows : List NamedTransRow) → status_in (entry ∷ rows) entry.0.0 ≡ entry.1.status
unfolding status_in row_in status_or_unknown
status_here entry rows = rw (eq-eqb entry.0.0 entry.0.0 refl) refl

-- a sum over the statuses of rows of different names is one over the names
pub sum_by_names : (f : Status → ℕ) (rows : List NamedTransRow) → Distinct (names_of rows) → sum_by (λ (row : TransRow). f row.status) (values_of rows) ≡ sum_by (λ n. f (status_in rows n)) (names_of rows)
unfolding names_of
sum_by_names f [] different = refl
sum_by_names f (entry ∷ rows) different =
    let here : status_in (entry ∷ rows) entry.0.0 ≡ entry.1.status = status_here entry rows in
    let rest = sum_same (λ n. f (status_in rows n)) (λ n. f (status_in (entry ∷ rows) n)) (names_of rows)
    (λ n listed. ap f (status_behind entry rows n (ne_eqb n entry.0.0 (λ e. false≢true (sym different.0 ∙ subst (λ m. lists (names_of rows) m ≡ true) e listed))))) in
    omega (arith, sum_by-cons (λ (row : TransRow). f row.status) entry.1 (values_of rows), sum_by_names f rows different.1, sum_by-cons (λ n. f (status_in (entry ∷ rows) n)) entry.0.0 (names_of rows), ap f here, rest)
