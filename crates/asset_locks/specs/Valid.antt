-- What holds of each table of locks, and what an answer makes of it.
use Rattle.std.specs.Prelude.{◌≡◌, ℕ, nat_eq, Bool, true, false, ◌&&◌, map, Some}
use Rattle.std.specs.List.{IsDistinct}
use Rattle.asset_names.specs.declared.names.Ob.{Ob}
use Rattle.asset_names.specs.declared.operations.Op.{Op}
use Rattle.asset_lock_store.specs.declared.lock.Lock.{Lock}
use Rattle.asset_locks.specs.declared.asked.Asked.{Asked}
use Rattle.asset_locks.specs.declared.asked.Asked.TheVariants.{Granted, Pending}
use Rattle.asset_locks.specs.LockTable.{LockTable, names_in, held_in, lock_in, grant_in, wait_in}
use Rattle.asset_lock_store.specs.LockRules.{is_some_op, both_conflict}

-- the locks are those of enrolled transactions, and no two of them that conflict are granted
pub record IsValid (table : LockTable) : Type 0 where
  -- a name is enrolled once
  pub names : IsDistinct nat_eq (names_in table)
  -- a name has one lock on an object
  pub objects : (t : ℕ) → IsDistinct nat_eq (map (λ (x : Ob). x.0) (held_in table t))
  -- a lock carries an operation
  pub carry : (t x : ℕ) (lock : Lock) → lock_in table t x ≡ Some lock → is_some_op lock.ops ≡ true
  -- of the locks of two names on one object, if they conflict, at most one is granted
  pub apart : (t u x : ℕ) (lock other : Lock) → (t ≡ u → ⊥) → lock_in table t x ≡ Some lock → lock_in table u x ≡ Some other
      → both_conflict lock.ops other.ops ≡ true → (lock.granted && other.granted) ≡ false

-- what a request is answered, by whether the object is free
unfoldable pub answer_where : Bool → Asked
answer_where true = Granted
answer_where false = Pending

-- the table after a request, by whether the object is free
unfoldable pub after_ask : Bool → ℕ → Ob → Op → LockTable → LockTable
after_ask true t x op table = grant_in t x op table
after_ask false t x op table = wait_in t x op table
