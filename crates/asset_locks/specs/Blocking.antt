-- Who blocks a request, and what waits, by the table.
use Rattle.std.specs.Prelude.{ℕ, Bool, ◌==◌, ◌&&◌, Option, None, Some}
use Rattle.std.specs.List.{list_any}
use Rattle.asset_names.specs.declared.operations.Op.{Op}
use Rattle.asset_lock_store.specs.LockRules.{blocks}
use Rattle.asset_locks.specs.LockTable.{Enrolled, LockTable, PendingRequest, enrolled_in}

-- whether u is enrolled and blocks t from op on x
unfoldable pub is_blocker_in : LockTable → (ℕ → Bool) → ℕ → ℕ → Op → ℕ → Bool
is_blocker_in table allows t x op u = list_any (λ (who : Enrolled). who.name == u && blocks allows t x op who.name who.locks) table

-- the request of a row that waits, if there is such a row
unfoldable pub request_of : Option Enrolled → PendingRequest
request_of None = None
request_of (Some who) = who.pending

-- t's request that waits, if there is one
unfoldable pub request_in : LockTable → ℕ → PendingRequest
request_in table t = request_of (enrolled_in table t)
