-- The table of locks: of each enrolled transaction its pending request, and its locks.
use Rattle.std.specs.Prelude.{ℕ, Bool, cond, not, ◌==◌, ◌&&◌, List, [], ◌∷◌, ◌++◌, map, filter, find, flat_map, Option, Some, None, option_map}
use Rattle.std.specs.List.{list_any}
use Rattle.asset_names.specs.declared.names.Txn.{Txn}
use Rattle.asset_names.specs.declared.names.Ob.{Ob}
use Rattle.asset_names.specs.declared.operations.Op.{Op}
use Rattle.asset_names.specs.OpSets.{OpSet}
use Rattle.asset_names.specs.declared.sets.ObSet.{ObSet}
use Rattle.asset_lock_store.specs.declared.lock.Lock.{Lock}
use Rattle.asset_lock_store.specs.declared.state.LockState.{LockState}
use Rattle.asset_lock_store.specs.LockRules.{is_on, carries_on, state_of, blocks, ops_with, granted_own, suspended, moved, left, with_moved}

-- the request that waits, if there is one
abbrev pub PendingRequest : Type 0
PendingRequest = Option (Ob × Op)

-- an enrolled name: its pending request, and its locks in order of first grant or move
pub record Enrolled : Type 0 where
  pub name : ℕ
  pub pending : PendingRequest
  pub locks : List Lock

-- the enrolled transactions, in order of enrolment
abbrev pub LockTable : Type 0
LockTable = List Enrolled

-- ---- what the table says
-- the names of the enrolled transactions, in order
unfoldable pub names_in : LockTable → List ℕ
names_in table = map (λ (who : Enrolled). who.name) table

-- the row of a name, if it is enrolled
unfoldable pub enrolled_in : LockTable → ℕ → Option Enrolled
enrolled_in table t = find (λ (who : Enrolled). who.name == t) table

-- the locks of a row, if there is one
unfoldable pub locks_or_none : Option Enrolled → List Lock
locks_or_none None = []
locks_or_none (Some who) = who.locks

-- t's locks, in order of first grant or move
unfoldable pub locks_of : LockTable → ℕ → List Lock
locks_of table t = locks_or_none (enrolled_in table t)

-- t's lock on x, if it has one
unfoldable pub lock_in : LockTable → ℕ → ℕ → Option Lock
lock_in table t x = find (is_on x) (locks_of table t)

-- the state of t's lock on x, if it has one
unfoldable pub status_in : LockTable → ℕ → ℕ → Option LockState
status_in table t x = option_map state_of (lock_in table t x)

-- the objects on which t has a lock, in order of first grant or move
unfoldable pub held_in : LockTable → ℕ → List Ob
held_in table t = map (λ (lock : Lock). lock.object) (locks_of table t)

-- whether a lock of t's on x carries op
unfoldable pub carries : LockTable → ℕ → ℕ → Op → Bool
carries table t x op = list_any (λ (who : Enrolled). who.name == t && list_any (carries_on x op) who.locks) table

-- x is free for t to do op if nobody blocks it
unfoldable pub is_free_in : LockTable → (ℕ → Bool) → ℕ → ℕ → Op → Bool
is_free_in table allows t x op = not (list_any (λ (who : Enrolled). blocks allows t x op who.name who.locks) table)

-- t with the operation that it asked for, if this is its pending request and it is for x
unfoldable pub waiting_at : ℕ → ℕ → PendingRequest → List (Txn × Op)
waiting_at x t None = []
waiting_at x t (Some request) = cond (request.0.0 == x) ((record { 0 = t }, request.1) ∷ []) []

-- those who wait for x, in order of enrolment, each with the operation that it asked for
unfoldable pub waiters_in : LockTable → ℕ → List (Txn × Op)
waiters_in table x = flat_map (λ (who : Enrolled). waiting_at x who.name who.pending) table

-- ---- how the table changes
-- one more name, at the end
unfoldable pub enrol_in : ℕ → LockTable → LockTable
enrol_in t table = table ++ record { name = t; pending = None; locks = [] } ∷ []

-- those who pass the test are enrolled no more, and have no lock
unfoldable pub release_in : (ℕ → Bool) → LockTable → LockTable
release_in test table = filter (λ (who : Enrolled). not (test who.name)) table

-- a row of t after its request waits
unfoldable pub waiting_row : ℕ → Ob → Op → Enrolled → Enrolled
waiting_row t x op who = cond (who.name == t) (record who { pending = Some (x, op) }) who

-- t's request waits
unfoldable pub wait_in : ℕ → Ob → Op → LockTable → LockTable
wait_in t x op table = map (waiting_row t x op) table

-- a row after op on x is granted to t, whose lock carries these operations then
unfoldable pub granted_row : ℕ → Ob → Op → OpSet → Enrolled → Enrolled
granted_row t x op ops who = cond (who.name == t) (record who { pending = None; locks = granted_own x op who.locks }) (record who { locks = map (suspended x.0 ops) who.locks })

-- op on x is granted to t
unfoldable pub grant_in : ℕ → Ob → Op → LockTable → LockTable
grant_in t x op table = map (granted_row t x op (ops_with op (lock_in table t x.0))) table

-- ---- what a hand-over changes
-- a row after the giver's locks on objects of the set, which are given, became the taker's
unfoldable pub handed_row : ℕ → ℕ → ObSet → List Lock → Enrolled → Enrolled
handed_row giver taker set given who =
    cond (who.name == giver) (record who { locks = left set who.locks }) (cond (who.name == taker) (record who { locks = with_moved given who.locks }) who)

-- the giver's locks on objects of the set become the taker's; nothing changes if both are one
unfoldable pub hand_over_in : ℕ → ℕ → ObSet → LockTable → LockTable
hand_over_in giver taker set table = cond (giver == taker) table (map (handed_row giver taker set (filter (moved set) (locks_of table giver))) table)
