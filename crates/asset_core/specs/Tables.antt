-- The tables of the facility, and when it is valid.
use Rattle.std.specs.Prelude.{◌+◌, ◌≤◌, List, map, length}
use Rattle.asset_names.specs.Steps.{applied}
use Rattle.asset_names.specs.Answers.{IsLegal}
use Rattle.asset_names.specs.Room.{owed}
use Rattle.asset_locks.specs.LockTable as Locks
use Rattle.asset_entries.specs.Recorded.{Recorded}
use Rattle.asset_core.specs.Pending.{Pending}
use Rattle.asset_ends.specs.Standing.{Standing, values_of}
use Rattle.asset_ends.specs.Shows.{Shows}

-- an enrolled transaction with its pending request
unfoldable pub asker_of : Locks.Enrolled → Pending
asker_of who = record { name = who.name; request = who.pending }

-- the pending requests in the table of locks
unfoldable pub pending_in : Locks.LockTable → List Pending
pending_in kept = map asker_of kept

-- the facility is valid: its tables show its history, which is legal; the entries that are there and those that are owed are
-- within the capacity, which is at most 1,000,000
pub record IsValid (history : Recorded) (tables : Standing) : Type 0 where
  pub stand : Shows history.opening (applied history.entries) (values_of tables)
  pub legal : IsLegal history.opening history.entries
  pub fitting : length history.entries + owed (applied history.entries) ≤ history.capacity
  pub capacity : history.capacity ≤ 1000000
