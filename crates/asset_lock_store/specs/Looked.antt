-- What a look at locks on the object that is asked for finds, and what a grant has to know of them.
use Rattle.std.specs.Prelude.{◌≡◌, ℕ, Bool, true, false, not, ◌==◌, ◌&&◌, ◌||◌, Option, None, Some, IfSome, IfNone}
use Rattle.std.specs.Option.{option_or}
use Rattle.asset_names.specs.declared.names.Txn.{Txn}
use Rattle.asset_names.specs.declared.operations.Op.{Op}
use Rattle.asset_names.specs.OpSets.{only_op}
use Rattle.asset_chains.specs.Chained.{home_of}
use Rattle.asset_lists.specs.declared.part.Section.{Section}
use Rattle.asset_seats.specs.Seated.{Seated}
use Rattle.asset_lock_store.specs.declared.lock.Lock.{Lock}
use Rattle.asset_lock_store.specs.declared.looking.Look.{Look}
use Rattle.asset_lock_store.specs.LockRules.{is_on, one_conflicts, conflicts_on}
use Rattle.asset_lock_store.specs.Stored.{Stored, lock_at, name_of, key_blocks, class_of, meets}

-- what both looks find; the own lock is that of the first, if it met one
unfoldable pub look_with : Look → Look → Look
look_with look more = record { blocked = look.blocked || more.blocked; own = option_or look.own more.own; conflicts = look.conflicts || more.conflicts }

-- whether a lock is t's, by who has it
unfoldable pub is_named : ℕ → Option Txn → Bool
is_named t None = false
is_named t (Some u) = u.0 == t

-- whether a lock is another's than t's, and conflicts with op
unfoldable pub name_conflicts : ℕ → Op → Lock → Option Txn → Bool
name_conflicts t op lock None = false
name_conflicts t op lock (Some u) = not (u.0 == t) && one_conflicts lock.ops op

-- whether the lock at a key is t's
unfoldable pub key_named : Stored → Seated → ℕ → ℕ → Bool
key_named store seats t k = is_named t (name_of seats (home_of store.by_owner k))

-- whether the lock at a key is another's than t's, and conflicts with op
unfoldable pub key_conflicts : Stored → Seated → ℕ → Op → ℕ → Bool
key_conflicts store seats t op k = name_conflicts t op (lock_at store.locks k) (name_of seats (home_of store.by_owner k))

-- a look that nobody blocked: the lock at the key does not block; it is not t's if no own lock was noted, and it is no other's
-- that conflicts if no conflict was noted
pub record IsSeen (store : Stored) (seats : Seated) (allows : ℕ → Bool) (t : ℕ) (op : Op) (look : Look) (k : ℕ) : Type 0 where
  pub free : key_blocks store seats allows t op k ≡ false
  pub own : look.own ≡ None → key_named store seats t k ≡ false
  pub alone : look.conflicts ≡ false → key_conflicts store seats t op k ≡ false

-- This is what a look at these locks finds: an own lock, whether one of them blocks, and, if none blocks, what it noted of each.
-- Without a note of conflicts there is none. A look may note conflicts where there is none, which costs time alone.
pub record IsLook (store : Stored) (seats : Seated) (allows : ℕ → Bool) (t : ℕ) (op : Op) (looked : ℕ → Type 0) (look : Look) : Type 0 where
  pub own : IfSome look.own (λ k. looked k × (key_named store seats t k ≡ true))
  pub blocked : look.blocked ≡ true → (k : ℕ) × looked k × (key_blocks store seats allows t op k ≡ true)
  pub seen : look.blocked ≡ false → (k : ℕ) → looked k → IsSeen store seats allows t op look k

-- whether a look for op is at the locks of a part: at those that may conflict with it
unfoldable pub looks_at : Op → Section → Bool
looks_at op section = meets section (only_op op)

-- whether a look for op is at a lock
unfoldable pub is_looked_at : Op → Lock → Bool
is_looked_at op lock = looks_at op (class_of lock.ops)

-- somebody's lock on x, at which a look for op is
pub record IsLookedAt (store : Stored) (x : ℕ) (op : Op) (k : ℕ) : Type 0 where
  pub seat : ℕ
  pub home : home_of store.by_owner k ≡ Some seat
  pub on : is_on x (lock_at store.locks k) ≡ true
  pub at : is_looked_at op (lock_at store.locks k) ≡ true

-- what a grant of op on x to a seat has to know: the lock of the seat on x, if a look for op is at it, and, unless conflicts are
-- noted, that no lock of another on x conflicts with op
pub record IsNoted (store : Stored) (c x : ℕ) (op : Op) (look : Look) : Type 0 where
  pub own : IfSome look.own (λ k. (home_of store.by_owner k ≡ Some c) × (is_on x (lock_at store.locks k) ≡ true))
  pub none : IfNone look.own ((k : ℕ) → home_of store.by_owner k ≡ Some c → is_on x (lock_at store.locks k) ≡ true → is_looked_at op (lock_at store.locks k) ≡ false)
  pub alone : look.conflicts ≡ false → (k d : ℕ) → home_of store.by_owner k ≡ Some d → (d ≡ c → ⊥) → conflicts_on x op (lock_at store.locks k) ≡ false
