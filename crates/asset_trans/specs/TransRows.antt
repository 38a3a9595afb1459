-- The table of transactions: a row for each that was initiated, in order of initiation.
use Rattle.std.specs.Prelude.{◌≡◌, ℕ, Bool, false, cond, ◌==◌, List, [], ◌∷◌, ◌++◌, map, sum_by, Option, Some, None}
use Rattle.std.specs.List.{list_any}
use Rattle.std.specs.Map.{lookup, values_of}
use Rattle.asset_names.specs.declared.names.Txn.{Txn}
use Rattle.asset_names.specs.declared.statuses.Status.{Status}
use Rattle.asset_names.specs.declared.statuses.Status.TheVariants as Status'
use Rattle.asset_names.specs.declared.statuses.End.{End}
use Rattle.asset_names.specs.declared.statuses.End.TheVariants as End'
use Rattle.asset_names.specs.Answers.{is_unknown}
use Rattle.asset_names.specs.Endings.{is_live_status}
use Rattle.asset_names.specs.Room.{owed_to}
use Rattle.asset_names.specs.Counted.{has_end}
use Rattle.asset_trans.specs.declared.row.TransRow.{TransRow}

-- a name with its row
abbrev pub NamedTransRow : Type 0
NamedTransRow = Txn × TransRow

-- the names, in order of initiation
unfoldable pub names_of : List NamedTransRow → List ℕ
names_of rows = map (λ (entry : NamedTransRow). entry.0.0) rows

-- the row of a name, if it has one
unfoldable pub row_in : List NamedTransRow → ℕ → Option TransRow
row_in rows t = lookup (λ (name : Txn). t == name.0) rows

-- the status in a row; Unknown if there is no row
unfoldable pub status_or_unknown : Option TransRow → Status
status_or_unknown None = Status'.Unknown
status_or_unknown (Some row) = row.status

-- the parent in a row, if there is a row and it has one
unfoldable pub parent_or_none : Option TransRow → Option Txn
parent_or_none None = None
parent_or_none (Some row) = row.parent

-- the seat in a row; 0 if there is no row
unfoldable pub seat_or_zero : Option TransRow → ℕ
seat_or_zero None = 0
seat_or_zero (Some row) = row.seat

-- the status of a transaction: one without a row is unknown
unfoldable pub status_in : List NamedTransRow → ℕ → Status
status_in rows t = status_or_unknown (row_in rows t)

-- the parent that the transaction was given, if any
unfoldable pub parent_in : List NamedTransRow → ℕ → Option Txn
parent_in rows t = parent_or_none (row_in rows t)

-- the seat that the transaction was given, which is its own while it is live; 0 for one without a row
unfoldable pub seat_in : List NamedTransRow → ℕ → ℕ
seat_in rows t = seat_or_zero (row_in rows t)

-- a new transaction comes last, is Initiated, and has its seat
unfoldable pub initiate_in : List NamedTransRow → Txn → Option Txn → ℕ → List NamedTransRow
initiate_in rows t parent seat = rows ++ (t, record { status = Status'.Initiated; parent = parent; seat = seat }) ∷ []

-- a row with the status, if its transaction passes the test
unfoldable pub set_entry : (ℕ → Bool) → Status → NamedTransRow → NamedTransRow
set_entry test status entry = cond (test entry.0.0) (entry.0, record entry.1 { status = status }) entry

-- each transaction that passes the test gets the status
unfoldable pub set_in : (ℕ → Bool) → Status → List NamedTransRow → List NamedTransRow
set_in test status rows = map (set_entry test status) rows

-- the status that an end gives
unfoldable pub ended_as : End → Status
ended_as End'.Committed = Status'.Committed
ended_as End'.Aborted = Status'.Aborted

-- what a transaction of this status adds to the number of those that are live
unfoldable pub one_if_live : Status → ℕ
one_if_live status = cond (is_live_status status) 1 0

-- how many transactions are live
unfoldable pub live_count_in : List NamedTransRow → ℕ
live_count_in rows = sum_by (λ (row : TransRow). one_if_live row.status) (values_of rows)

-- how many entries all transactions are owed
unfoldable pub owed_in : List NamedTransRow → ℕ
owed_in rows = sum_by (λ (row : TransRow). owed_to row.status) (values_of rows)

-- what a transaction of this status adds to the number of those that have ended in this way
unfoldable pub one_if_ended : End → Status → ℕ
one_if_ended how status = cond (has_end how status) 1 0

-- how many transactions have ended in this way
unfoldable pub ended_in : End → List NamedTransRow → ℕ
ended_in how rows = sum_by (λ (row : TransRow). one_if_ended how row.status) (values_of rows)

-- whether a row has the status Unknown
unfoldable pub has_unknown : List NamedTransRow → Bool
has_unknown rows = list_any (λ (entry : NamedTransRow). is_unknown entry.1.status) rows

-- no row is Unknown, and the counters are the sums over the rows
pub record IsValid (rows : List NamedTransRow) (live owed committed aborted : ℕ) : Type 0 where
  pub known : has_unknown rows ≡ false
  pub counts_live : live ≡ live_count_in rows
  pub counts_owed : owed ≡ owed_in rows
  pub counts_committed : committed ≡ ended_in End'.Committed rows
  pub counts_aborted : aborted ≡ ended_in End'.Aborted rows
