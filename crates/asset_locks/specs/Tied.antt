-- The table by seat: its parts, the rows that they show, and what ties them to the seats.
use Rattle.std.specs.Prelude.{◌≡◌, ℕ, ◌<◌, ◌≤◌, true, List, map, length, Option, Some, None, is_some, slice_index_or}
use Rattle.asset_names.specs.declared.names.Txn.{Txn}
use Rattle.asset_chains.specs.Chained.{Chained, chain_of, home_of}
use Rattle.asset_seats.specs.Seated.{Seated, seat}
use Rattle.asset_lock_store.specs.Stored.{Stored, locks_at}
use Rattle.asset_locks.specs.LockTable.{Enrolled, LockTable, PendingRequest, enrolled_in}

-- ---- the rows of the table
-- the name of one who has a seat; 0 for nobody
unfoldable pub name_or_zero : Option Txn → ℕ
name_or_zero None = 0
name_or_zero (Some t) = t.0

-- the request that waits of a seat
unfoldable pub pending_at : List PendingRequest → ℕ → PendingRequest
pending_at pending c = slice_index_or pending c None

-- the row of a seat
unfoldable pub row_at : Seated → List PendingRequest → Stored → ℕ → Enrolled
row_at seats pending store c = record { name = name_or_zero (seat seats c); pending = pending_at pending c; locks = locks_at store c }

-- the rows of those who are enrolled, in order of enrolment
unfoldable pub rows_of : Seated → List PendingRequest → Chained → Stored → LockTable
rows_of seats pending order store = map (row_at seats pending store) (chain_of order 0)

-- the seat has its place for a request, its chain of locks and its key in the chain of enrolment
pub record HasPlaces (pending : List PendingRequest) (order : Chained) (store : Stored) (c : ℕ) : Type 0 where
  pub request : c < length pending
  pub locks : c < length store.by_owner.chains
  pub chain : 0 < length order.chains
  pub key : c < length order.homes

-- who is enrolled has a seat, nobody has two seats, who has locks is enrolled, and each seat that is taken has its places
pub record AreSeated (seats : Seated) (pending : List PendingRequest) (order : Chained) (store : Stored) : Type 0 where
  -- those who are enrolled are in one chain
  pub enrolled : (c d : ℕ) → home_of order c ≡ Some d → (d ≡ 0) × (is_some (seat seats c) ≡ true)
  -- nobody has two seats
  pub single : (c d : ℕ) (t : Txn) → seat seats c ≡ Some t → seat seats d ≡ Some t → c ≡ d
  pub places : (c : ℕ) (t : Txn) → seat seats c ≡ Some t → HasPlaces pending order store c
  pub holders : (c k : ℕ) → home_of store.by_owner k ≡ Some c → home_of order c ≡ Some 0

-- no fewer places, chains and keys, and each request and each enrolment where it was
pub record IsRoomMade (pending : List PendingRequest) (order : Chained) (longer : List PendingRequest) (grown : Chained) : Type 0 where
  pub requests : (c : ℕ) → pending_at longer c ≡ pending_at pending c
  pub places : length pending ≤ length longer
  pub chains : (c : ℕ) → chain_of grown c ≡ chain_of order c
  pub homes : (k : ℕ) → home_of grown k ≡ home_of order k
  pub many : length order.chains ≤ length grown.chains
  pub keys : length order.homes ≤ length grown.homes

-- ---- the parts of the table
pub record LockParts : Type 0 where
  -- of each seat the request that waits
  pub pending : List PendingRequest
  -- the seats of those who are enrolled, in order of enrolment, in chain 0
  pub order : Chained
  pub store : Stored

-- the rows of those who are enrolled, by the names of those who have the seats
abbrev pub rows_in : Seated → LockParts → LockTable
rows_in seats table = rows_of seats table.pending table.order table.store

-- who is enrolled has a seat, nobody has two seats, who has locks is enrolled, and each seat that is taken has room
abbrev pub IsTied : LockParts → Seated → Type 0
IsTied table seats = AreSeated seats table.pending table.order table.store

-- the seat has room
abbrev pub HasRoom : LockParts → ℕ → Type 0
HasRoom table c = HasPlaces table.pending table.order table.store c

-- ---- the table by name
-- who has a seat is enrolled
abbrev pub SittersAreEnrolled : Seated → LockTable → Type 0
SittersAreEnrolled seats rows = (c : ℕ) (t : Txn) → seat seats c ≡ Some t → is_some (enrolled_in rows t.0) ≡ true
