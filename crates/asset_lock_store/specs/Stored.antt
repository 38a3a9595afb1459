-- How locks are stored: in a slab, beside lists of its keys by object, and chains of them by the seat of the owner.
use Rattle.std.specs.Prelude.{◌≡◌, ℕ, ◌<◌, ◌≤◌, Bool, true, false, cond, not, ◌==◌, ◌&&◌, ◌||◌, ◌⊎◌, List, [], ◌∷◌, ◌++◌, length, map, Option, Some, None, is_some, unwrap_or}
use Rattle.slab.specs.Slab.{Slab, get, HasRoomFor}
use Rattle.asset_chains.specs.Chained.{Chained, chain_of, home_of, without}
use Rattle.asset_lists.specs.declared.part.Part.{Part}
use Rattle.asset_lists.specs.declared.part.Section.{Section}
use Rattle.asset_lists.specs.declared.part.Section.TheVariants.{Front, Middle, Back}
use Rattle.asset_lists.specs.Parted.{Parted, part_of}
use Rattle.asset_names.specs.declared.names.Txn.{Txn}
use Rattle.asset_names.specs.declared.names.Ob.{Ob}
use Rattle.asset_names.specs.declared.operations.Op.{Op}
use Rattle.asset_names.specs.Numbered.{number_in}
use Rattle.asset_seats.specs.Seated.{Seated, seat}
use Rattle.asset_lock_store.specs.declared.lock.Lock.{Lock}
use Rattle.asset_names.specs.OpSets.{OpSet}
use Rattle.asset_lock_store.specs.LockRules.{suspended, with_moved, is_some_op, both_conflict, one_conflicts, excludes}

-- the locks of a table, and who has them
pub record Stored : Type 0 where
  -- the locks, by key
  pub locks : Slab Lock
  -- the objects that may have locks, in the order of their numbers
  pub objects : List Ob
  -- of each object the keys of its locks, by the part that `class_of` says
  pub by_object : Parted
  -- of each seat the keys of its locks, in order of first grant or move
  pub by_owner : Chained

-- a lock, if there is none at a key
unfoldable pub no_lock : Lock
no_lock = record { object = record { 0 = 0 }; ops = record { read = true; write = false; add = false }; granted = false }

-- the lock at a key
unfoldable pub lock_at : Slab Lock → ℕ → Lock
lock_at locks k = unwrap_or (get locks k) no_lock

-- the locks of a seat, in order of first grant or move
unfoldable pub locks_at : Stored → ℕ → List Lock
locks_at store c = map (lock_at store.locks) (chain_of store.by_owner c)

-- the part of its object's list that a lock with these operations is in: those that only read are in the back part, those
-- that only add in the middle part, and in the front part those that conflict with each other lock
unfoldable pub class_of : OpSet → Section
class_of ops = cond (excludes ops) Front (cond ops.add Middle Back)

-- whether a lock of this part may conflict with these operations
unfoldable pub meets : Section → OpSet → Bool
meets Front ops = true
meets Middle ops = ops.read || ops.write
meets Back ops = ops.write || ops.add

-- a part of the locks on an object
unfoldable pub part_for : ℕ → Section → Part
part_for number section = record { list = number; section = section }

-- whether two parts of a list are the same
abbrev pub same_section : Section → Section → Bool
same_section Front Front = true
same_section Middle Middle = true
same_section Back Back = true
same_section section other = false

-- whether a key whose part is given is in this one
abbrev pub is_in : Part → Option Part → Bool
is_in part None = false
is_in part (Some other) = other.list == part.list && same_section part.section other.section

-- a key is in the list of the object that its lock is on
pub record IsPlaced (store : Stored) (k : ℕ) : Type 0 where
  pub number : ℕ
  pub numbered : number_in store.objects (lock_at store.locks k).object.0 ≡ Some number
  pub part : part_of store.by_object k ≡ Some (part_for number (class_of (lock_at store.locks k).ops))

-- each lock is in the list of its object and in the chain of an owner, and nothing else is in a list or a chain
pub record IsStored (store : Stored) : Type 0 where
  pub held : (k : ℕ) → is_some (home_of store.by_owner k) ≡ is_some (get store.locks k)
  pub listed : (k : ℕ) → is_some (part_of store.by_object k) ≡ is_some (get store.locks k)
  pub placed : (k c : ℕ) → home_of store.by_owner k ≡ Some c → IsPlaced store k
  -- there is a list for each object
  pub lists : length store.objects ≤ store.by_object.lists
  -- an owner has one lock on an object
  pub single : (j k c : ℕ) → home_of store.by_owner j ≡ Some c → home_of store.by_owner k ≡ Some c → (lock_at store.locks j).object.0 ≡ (lock_at store.locks k).object.0 → j ≡ k
  -- a lock carries an operation
  pub carry : (k c : ℕ) → home_of store.by_owner k ≡ Some c → is_some_op (lock_at store.locks k).ops ≡ true
  -- of two locks on one object that conflict, at most one is granted
  pub apart : (j k c d : ℕ) → home_of store.by_owner j ≡ Some c → home_of store.by_owner k ≡ Some d → (c ≡ d → ⊥) → (lock_at store.locks j).object.0 ≡ (lock_at store.locks k).object.0
      → both_conflict (lock_at store.locks j).ops (lock_at store.locks k).ops ≡ true → ((lock_at store.locks j).granted && (lock_at store.locks k).granted) ≡ false

-- whether a lock conflicts with op and is another's than t's, who does not allow t, by who has it; nobody's lock does not block
unfoldable pub name_blocks : (ℕ → Bool) → ℕ → Op → Lock → Option Txn → Bool
name_blocks allows t op lock None = false
name_blocks allows t op lock (Some u) = not (u.0 == t) && one_conflicts lock.ops op && not (allows u.0)

-- who has the seat that is a key's home, if it has one
unfoldable pub name_of : Seated → Option ℕ → Option Txn
name_of seats None = None
name_of seats (Some c) = seat seats c

-- whether the lock at a key blocks t's op: it conflicts with op and is another's than t's, who does not allow t
unfoldable pub key_blocks : Stored → Seated → (ℕ → Bool) → ℕ → Op → ℕ → Bool
key_blocks store seats allows t op k = name_blocks allows t op (lock_at store.locks k) (name_of seats (home_of store.by_owner k))

-- whether a key with this home is another's than c's: it is in the chain of another seat, or in no chain
unfoldable pub is_others : ℕ → Option ℕ → Bool
is_others c None = true
is_others c (Some d) = not (d == c)

-- ---- what a call of the store leaves
-- there may be more seats, and each lock is where it was
pub record IsGrown (old new : Stored) : Type 0 where
  pub locks : (k : ℕ) → get new.locks k ≡ get old.locks k
  pub chains : (c : ℕ) → chain_of new.by_owner c ≡ chain_of old.by_owner c
  pub homes : (k : ℕ) → home_of new.by_owner k ≡ home_of old.by_owner k
  pub seats : length old.by_owner.chains ≤ length new.by_owner.chains
  pub objects : new.objects ≡ old.objects

-- one lock is gone
pub record IsDropped (key : ℕ) (old new : Stored) : Type 0 where
  pub locks : (k : ℕ) → (k ≡ key → ⊥) → lock_at new.locks k ≡ lock_at old.locks k
  pub chains : (c : ℕ) → chain_of new.by_owner c ≡ without key (chain_of old.by_owner c)
  pub homes : (k : ℕ) → home_of new.by_owner k ≡ cond (k == key) None (home_of old.by_owner k)
  pub seats : length new.by_owner.chains ≡ length old.by_owner.chains
  pub objects : new.objects ≡ old.objects

-- one lock is another seat's, at the end of those of this seat
pub record IsMoved (key to : ℕ) (old new : Stored) : Type 0 where
  pub locks : new.locks ≡ old.locks
  pub chain : chain_of new.by_owner to ≡ chain_of old.by_owner to ++ key ∷ []
  pub chains : (d : ℕ) → (d ≡ to → ⊥) → chain_of new.by_owner d ≡ without key (chain_of old.by_owner d)
  pub homes : (k : ℕ) → home_of new.by_owner k ≡ cond (k == key) (Some to) (home_of old.by_owner k)
  pub seats : length new.by_owner.chains ≡ length old.by_owner.chains
  pub objects : new.objects ≡ old.objects

-- one lock of a seat is another's: by itself, or as one with the lock that the other has on its object
pub record IsHanded (key from to : ℕ) (old new : Stored) : Type 0 where
  pub giver : chain_of new.by_owner from ≡ without key (chain_of old.by_owner from)
  pub kept : (k : ℕ) → home_of old.by_owner k ≡ Some from → (k ≡ key → ⊥) → lock_at new.locks k ≡ lock_at old.locks k
  pub taker : locks_at new to ≡ with_moved (lock_at old.locks key ∷ []) (locks_at old to)
  pub others : (d : ℕ) → (d ≡ from → ⊥) → (d ≡ to → ⊥) → locks_at new d ≡ locks_at old d
  pub seats : length new.by_owner.chains ≡ length old.by_owner.chains
  pub holders : (k d : ℕ) → home_of new.by_owner k ≡ Some d → (home_of old.by_owner k ≡ Some d) ⊎ (d ≡ to)
  pub objects : new.objects ≡ old.objects

-- there is room for one more lock at this key
pub record HasKey (store : Stored) (key : ℕ) : Type 0 where
  pub slot : HasRoomFor store.locks 1
  pub vacant : store.locks.vacant_key ≡ key
  pub empty : get store.locks key ≡ None
  pub of_object : key < length store.by_object.parts
  pub of_owner : key < length store.by_owner.homes

-- each lock on x of another than c is suspended if it conflicts with these operations, and nothing else changes
pub record IsSuspended (x c : ℕ) (ops : OpSet) (old new : Stored) : Type 0 where
  pub own : (k : ℕ) → home_of old.by_owner k ≡ Some c → lock_at new.locks k ≡ lock_at old.locks k
  pub others : (k d : ℕ) → home_of old.by_owner k ≡ Some d → (d ≡ c → ⊥) → lock_at new.locks k ≡ suspended x ops (lock_at old.locks k)
  pub by_owner : new.by_owner ≡ old.by_owner
  pub objects : new.objects ≡ old.objects

-- one more lock is there, at the end of those of the seat
pub record IsAdded (key c : ℕ) (lock : Lock) (old new : Stored) : Type 0 where
  pub free : home_of old.by_owner key ≡ None
  pub added : lock_at new.locks key ≡ lock
  pub locks : (k : ℕ) → (k ≡ key → ⊥) → lock_at new.locks k ≡ lock_at old.locks k
  pub home : home_of new.by_owner key ≡ Some c
  pub homes : (k : ℕ) → (k ≡ key → ⊥) → home_of new.by_owner k ≡ home_of old.by_owner k
  pub chain : chain_of new.by_owner c ≡ chain_of old.by_owner c ++ key ∷ []
  pub chains : (d : ℕ) → (d ≡ c → ⊥) → chain_of new.by_owner d ≡ chain_of old.by_owner d
  pub seats : length old.by_owner.chains ≤ length new.by_owner.chains
  pub objects : new.objects ≡ old.objects
