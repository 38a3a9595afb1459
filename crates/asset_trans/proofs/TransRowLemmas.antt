-- One row of a table of different names changes.
use Rattle.std.proofs.Common.{◌≡◌, ℕ, ◌+◌, ◌*◌, ◌≤◌, length, Bool, true, false, cond, eqb, ◌||◌, List, [], ◌∷◌, ◌++◌, refl, sym, ◌∙◌, ap, arith, Some, None}
use Rattle.std.specs.Prelude.{Option, is_some, sum_by}
use Rattle.std.specs.List.{IsDistinct, AllByRecursion}
use Rattle.std.specs.Map.{lookup, values_of, set_value, keys_of}
use Rattle.std.proofs.lemmas.Bool.{eqb-true, false≢true, or_parts}
use Rattle.std.proofs.lemmas.Map.Entries.{sum_by-set_value}
use Rattle.std.proofs.lemmas.List.Sums.{sum_by-cons}
use Rattle.std.proofs.lemmas.List.Sums.{sum_by_push}
use Rattle.std.proofs.lemmas.List.{map-append}
use Rattle.std.proofs.lemmas.List.Folds.{list_any-append}
use Rattle.asset_names.specs.Answers.{is_unknown}
use Rattle.asset_names.specs.Endings.{is_live_status}
use Rattle.asset_names.specs.Room.{owed_to}
use Rattle.asset_names.specs.Counted.{has_end}
use Rattle.asset_names.specs.declared.statuses.Status.TheVariants as Status'
use Rattle.asset_names.specs.declared.statuses.End.{End}
use Rattle.asset_names.specs.declared.statuses.End.TheVariants as End'
use Rattle.asset_names.specs.declared.names.Txn.{Txn}
use Rattle.asset_names.specs.declared.statuses.Status.{Status}
use Rattle.asset_names.proofs.Common.{eqb-flip}
use Rattle.asset_trans.specs.declared.row.TransRow.{TransRow}
use Rattle.asset_trans.specs.TransRows.{NamedTransRow, row_in, status_in, status_or_unknown, initiate_in, set_in, set_entry, ended_as, one_if_live, live_count_in, owed_in, one_if_ended, ended_in, has_unknown}

-- whether two names are one, as the map looks for a name
abbrev pub same : Txn → Txn → Bool
same t u = eqb t.0 u.0

-- a name that is not there is not set
none_set : (t : Txn) (status : Status) (rows : List NamedTransRow) → AllByRecursion (λ u. same t u ≡ false) (keys_of rows) → set_in (λ n. eqb n t.0) status rows ≡ rows
unfolding set_in set_entry
none_set t status [] h = refl
none_set t status (entry ∷ rows) h = rw (eqb-flip entry.0.0 t.0, h.0, none_set t status rows h.1)

-- what stands for all names with an equal one stands for it
same_apart : (t u : Txn) (names : List Txn) → eqb t.0 u.0 ≡ true → AllByRecursion (λ y. same u y ≡ false) names → AllByRecursion (λ y. same t y ≡ false) names
same_apart t u [] e h = tt
same_apart t u (y ∷ names) e h = (rw (eqb-true t.0 u.0 e) h.0, same_apart t u names e h.1)

-- the row of one name is set
pub set_one : (t : Txn) (status : Status) (rows : List NamedTransRow) (row : TransRow) → IsDistinct same (keys_of rows) → row_in rows t.0 ≡ Some row
    → set_value (same t) rows (record row { status = status }) ≡ set_in (λ n. eqb n t.0) status rows
unfolding row_in set_in set_entry IsDistinct
set_one t status [] row different found = cc
set_one t status (entry ∷ rows) row different found = go (eqb t.0 entry.0.0) refl found (λ later. set_one t status rows row different.1 later) where
  go : (here : Bool) → eqb t.0 entry.0.0 ≡ here → cond here (Some entry.1) (lookup (same t) rows) ≡ Some row
      → (lookup (same t) rows ≡ Some row → set_value (same t) rows (record row { status = status }) ≡ set_in (λ n. eqb n t.0) status rows)
      → cond here ((entry.0, record row { status = status }) ∷ rows) (entry ∷ set_value (same t) rows (record row { status = status }))
      ≡ cond (eqb entry.0.0 t.0) (entry.0, record entry.1 { status = status }) entry ∷ set_in (λ n. eqb n t.0) status rows
  go true e found rest =
      let is : entry.1 ≡ row = cc in
      rw (eqb-flip entry.0.0 t.0, e, none_set t status rows (same_apart t entry.0 (keys_of rows) e different.0), is)
  go false e found rest = rw (eqb-flip entry.0.0 t.0, e, rest found)

-- the status of a name that is there
pub status_found : (t : ℕ) (rows : List NamedTransRow) (row : TransRow) → row_in rows t ≡ Some row → status_in rows t ≡ row.status
unfolding status_in status_or_unknown
status_found t rows row found = rw found

-- a sum over the statuses, after one row of different names is set
pub count_set : (f : Status → ℕ) (t : Txn) (status : Status) (rows : List NamedTransRow) (row : TransRow) → IsDistinct same (keys_of rows) → row_in rows t.0 ≡ Some row
    → sum_by (λ (r : TransRow). f r.status) (values_of (set_in (λ n. eqb n t.0) status rows)) + f (status_in rows t.0) ≡ sum_by (λ (r : TransRow). f r.status) (values_of rows) + f status
unfolding row_in
count_set f t status rows row different found =
    rw (status_found t.0 rows row found, ← set_one t status rows row different found) (sum_by-set_value (λ (r : TransRow). f r.status) (same t) rows row (record row { status = status }) found)

-- who is not unknown is there
pub known_there : (t : ℕ) (rows : List NamedTransRow) (status : Status) → status_in rows t ≡ status → is_unknown status ≡ false → is_some (row_in rows t) ≡ true
unfolding status_in status_or_unknown is_unknown
known_there t rows status is known = go (row_in rows t) refl where
  go : (found : Option TransRow) → row_in rows t ≡ found → is_some found ≡ true
  go (Some row) e = refl
  go None e = absurd (false≢true (sym known ∙ ap is_unknown (sym is ∙ ap status_or_unknown e)))

-- a sum of what is at most two for each row
pub sum_most : (f : TransRow → ℕ) (rows : List NamedTransRow) → ((row : TransRow) → f row ≤ 2) → sum_by f (values_of rows) ≤ 2 * length rows
sum_most f [] most = omega arith
sum_most f (entry ∷ rows) most = omega (arith, sum_by-cons f entry.1 (values_of rows), sum_most f rows most, most entry.1)

-- the rows after a new name comes
pub initiated_counts : (t : Txn) (parent : Option Txn) (seat : ℕ) (rows : List NamedTransRow)
    → (live_count_in (initiate_in rows t parent seat) ≡ live_count_in rows + 1) × (owed_in (initiate_in rows t parent seat) ≡ owed_in rows + 2)
unfolding live_count_in owed_in initiate_in one_if_live is_live_status owed_to
initiated_counts t parent seat rows =
    let new : TransRow = record { status = Status'.Initiated; parent = parent; seat = seat } in
    let values : values_of (rows ++ (t, new) ∷ []) ≡ values_of rows ++ new ∷ [] = map-append (λ (entry : NamedTransRow). entry.1) rows ((t, new) ∷ []) in
    (rw values (sum_by_push (λ (row : TransRow). one_if_live row.status) (values_of rows) new), rw values (sum_by_push (λ (row : TransRow). owed_to row.status) (values_of rows) new))

-- what one row adds at most
pub most_live : (rows : List NamedTransRow) → live_count_in rows ≤ 2 * length rows
unfolding live_count_in one_if_live is_live_status
most_live rows = sum_most (λ row. one_if_live row.status) rows (λ row. go row.status) where
  go : (status : Status) → one_if_live status ≤ 2
  go Status'.Unknown = omega arith
  go Status'.Initiated = omega arith
  go Status'.Running = omega arith
  go Status'.Completed = omega arith
  go Status'.Committed = omega arith
  go Status'.Aborted = omega arith

pub most_owed : (rows : List NamedTransRow) → owed_in rows ≤ 2 * length rows
unfolding owed_in owed_to
most_owed rows = sum_most (λ row. owed_to row.status) rows (λ row. go row.status) where
  go : (status : Status) → owed_to status ≤ 2
  go Status'.Unknown = omega arith
  go Status'.Initiated = omega arith
  go Status'.Running = omega arith
  go Status'.Completed = omega arith
  go Status'.Committed = omega arith
  go Status'.Aborted = omega arith

-- a status that is that of a live transaction is no less than another in what it counts
pub live_counts : (status : Status) → is_live_status status ≡ true → (one_if_live status ≡ 1) × (is_unknown status ≡ false)
unfolding is_live_status one_if_live is_unknown
live_counts Status'.Initiated h = (refl, refl)
live_counts Status'.Running h = (refl, refl)
live_counts Status'.Completed h = (refl, refl)
live_counts Status'.Unknown h = absurd (false≢true h)
live_counts Status'.Committed h = absurd (false≢true h)
live_counts Status'.Aborted h = absurd (false≢true h)

-- who is live has not ended
pub live_not_ended : (how : End) (status : Status) → is_live_status status ≡ true → one_if_ended how status ≡ 0
unfolding is_live_status one_if_ended has_end
live_not_ended End'.Committed Status'.Initiated h = refl
live_not_ended End'.Committed Status'.Running h = refl
live_not_ended End'.Committed Status'.Completed h = refl
live_not_ended End'.Aborted Status'.Initiated h = refl
live_not_ended End'.Aborted Status'.Running h = refl
live_not_ended End'.Aborted Status'.Completed h = refl
live_not_ended how Status'.Unknown h = absurd (false≢true h)
live_not_ended how Status'.Committed h = absurd (false≢true h)
live_not_ended how Status'.Aborted h = absurd (false≢true h)

-- no more have ended than there are rows
pub most_ended : (how : End) (rows : List NamedTransRow) → ended_in how rows ≤ 2 * length rows
unfolding ended_in one_if_ended
most_ended how rows = sum_most (λ row. one_if_ended how row.status) rows (λ row. go (has_end how row.status)) where
  go : (is : Bool) → cond is 1 0 ≤ 2
  go true = omega arith
  go false = omega arith

-- a new name has not ended
pub initiated_ended : (how : End) (t : Txn) (parent : Option Txn) (seat : ℕ) (rows : List NamedTransRow) → ended_in how (initiate_in rows t parent seat) ≡ ended_in how rows
unfolding ended_in initiate_in one_if_ended is_live_status
initiated_ended how t parent seat rows =
    let new : TransRow = record { status = Status'.Initiated; parent = parent; seat = seat } in
    let values : values_of (rows ++ (t, new) ∷ []) ≡ values_of rows ++ new ∷ [] = map-append (λ (entry : NamedTransRow). entry.1) rows ((t, new) ∷ []) in
    rw values (omega (arith, sum_by_push (λ (row : TransRow). one_if_ended how row.status) (values_of rows) new, live_not_ended how Status'.Initiated refl))

-- what has ended counts nothing
pub ended_counts : (how : End) → (owed_to (ended_as how) ≡ 0) × (one_if_live (ended_as how) ≡ 0)
unfolding ended_as owed_to one_if_live is_live_status
ended_counts End'.Committed = (refl, refl)
ended_counts End'.Aborted = (refl, refl)

-- what has ended is known
pub ended_known : (how : End) → is_unknown (ended_as how) ≡ false
unfolding ended_as is_unknown
ended_known End'.Committed = refl
ended_known End'.Aborted = refl

-- a name whose status is Unknown has no row
pub unknown_absent : (t : ℕ) (rows : List NamedTransRow) → has_unknown rows ≡ false → status_in rows t ≡ Status'.Unknown → row_in rows t ≡ None
unfolding has_unknown status_in status_or_unknown row_in is_unknown
unknown_absent t [] known is = refl
unknown_absent t (entry ∷ rows) known is =
    let parts = or_parts (is_unknown entry.1.status) (has_unknown rows) known in
    go (eqb t entry.0.0) parts.0 is (unknown_absent t rows parts.1) where
      go : (here : Bool) → is_unknown entry.1.status ≡ false → status_or_unknown (cond here (Some entry.1) (row_in rows t)) ≡ Status'.Unknown
          → (status_in rows t ≡ Status'.Unknown → row_in rows t ≡ None) → cond here (Some entry.1) (row_in rows t) ≡ None
      go true new e rest = absurd (false≢true (sym new ∙ ap is_unknown e))
      go false new e rest = rest e

-- no row becomes Unknown where the status that is set is another
pub known_set : (test : ℕ → Bool) (status : Status) (rows : List NamedTransRow) → is_unknown status ≡ false → has_unknown rows ≡ false → has_unknown (set_in test status rows) ≡ false
unfolding has_unknown set_in set_entry
known_set test status [] new known = refl
known_set test status (entry ∷ rows) new known =
    let parts = or_parts (is_unknown entry.1.status) (has_unknown rows) known in
    go (test entry.0.0) parts.0 (known_set test status rows new parts.1) where
      go : (set : Bool) → is_unknown entry.1.status ≡ false → has_unknown (set_in test status rows) ≡ false
          → (is_unknown (cond set (entry.0, record entry.1 { status = status }) entry).1.status || has_unknown (set_in test status rows)) ≡ false
      go true old rest = rw (new, rest) refl
      go false old rest = rw (old, rest) refl

-- nor where a new name comes
pub known_initiate : (t : Txn) (parent : Option Txn) (seat : ℕ) (rows : List NamedTransRow) → has_unknown rows ≡ false → has_unknown (initiate_in rows t parent seat) ≡ false
unfolding has_unknown initiate_in is_unknown
known_initiate t parent seat rows known = list_any-append (λ (entry : NamedTransRow). is_unknown entry.1.status) rows _ ∙ rw known refl
