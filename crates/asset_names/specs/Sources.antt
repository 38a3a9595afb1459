-- Which entry a read got its value from.
use Rattle.std.specs.Prelude.{◌≡◌, ℕ, ℤ, Bool, true, false, cond, ◌==◌, ◌&&◌, ◌⊎◌, List, [], ◌∷◌, length, zip, find, Option, Some, None}
use Rattle.asset_names.specs.declared.names.Txn.{Txn}
use Rattle.asset_names.specs.declared.names.Ob.{Ob}
use Rattle.asset_names.specs.declared.steps.Step.{Step}
use Rattle.asset_names.specs.declared.steps.Step.TheVariants.{Read, Write, Add}
use Rattle.asset_names.specs.declared.replies.Reply.TheVariants as Reply'
use Rattle.asset_names.specs.Steps.{Opening, Entry, takes_effect, applied}
use Rattle.asset_names.specs.Endings.{end_of}
use Rattle.asset_names.specs.Operations.{Use, writes, adds, Operation, operations, stands, opening_value, after_use}
use Rattle.asset_names.specs.Groups.{same_group, was_committed}

-- an operation, and the number of its entry, from 0
abbrev pub Numbered : Type 0
Numbered = ℕ × Operation

-- whether a step is a read, a write or an add
unfoldable pub is_operation : Step → Bool
is_operation (Read t x) = true
is_operation (Write t x v) = true
is_operation (Add t x d) = true
is_operation step = false

-- whether a use is a write
unfoldable pub is_write : Use → Bool
is_write (writes v) = true
is_write other = false

-- whether a use is an add
unfoldable pub is_add : Use → Bool
is_add (adds d) = true
is_add other = false

-- the numbers of the entries that are operations, newest first
unfoldable pub operation_numbers : List Entry → List ℕ
operation_numbers [] = []
operation_numbers (entry ∷ older) = cond (takes_effect entry.0 entry.1 && is_operation entry.0) (length older ∷ operation_numbers older) (operation_numbers older)

-- the operations with their numbers, newest first
unfoldable pub numbered : List Entry → List Numbered
numbered entries = zip (operation_numbers entries) (operations (applied entries))

-- whether an operation is a write on x that stands
unfoldable pub stands_on : List Entry → ℕ → Numbered → Bool
stands_on entries x found = found.1.object == x && is_write found.1.use_of && stands (applied entries) found.1

-- the source of x after the entries: the last write on x that stands; None if no write on x stands, even if adds do
unfoldable pub source : List Entry → ℕ → Option Numbered
source entries x = find (stands_on entries x) (numbered entries)

-- whether an operation is an add on x that stands
unfoldable pub adds_on : List Entry → ℕ → Numbered → Bool
adds_on entries x found = found.1.object == x && is_add found.1.use_of && stands (applied entries) found.1

-- of numbered operations, newest first, the adds on x that stand, down to the first write on x that stands
unfoldable pub added_on : List Entry → ℕ → List Numbered → List Numbered
added_on entries x [] = []
added_on entries x (found ∷ older) = cond (stands_on entries x found) [] (cond (adds_on entries x found) (found ∷ added_on entries x older) (added_on entries x older))

-- the adds in the value of x after the entries, newest first: those on x that stand and come after its source
unfoldable pub added : List Entry → ℕ → List Numbered
added entries x = added_on entries x (numbered entries)

-- a value with adds, newest first
unfoldable pub with_added : ℤ → List Numbered → ℤ
with_added first [] = first
with_added first (found ∷ older) = after_use found.1.use_of (with_added first older)

-- the value that a source gives: what its write wrote, or the opening value
unfoldable pub source_value : Opening → ℕ → Option Numbered → ℤ
source_value opening x None = opening_value opening x
source_value opening x (Some found) = after_use found.1.use_of (opening_value opening x)

-- the entry with this number, from 0
unfoldable pub entry_at : List Entry → ℕ → Option Entry
entry_at [] m = None
entry_at (entry ∷ older) m = cond (m == length older) (Some entry) (entry_at older m)

-- a transaction is alone if nobody else is of its group
abbrev pub IsAlone : List Entry → ℕ → Type 0
IsAlone entries t = (n : ℕ) → same_group entries t n ≡ true → n ≡ t

-- the entry with this number is a write on x that t asked for
abbrev pub IsWriteOf : List Entry → Txn → Ob → ℕ → Type 0
IsWriteOf entries t x m = (v : ℤ) × (entry_at entries m ≡ Some (Write t x v, Reply'.Done))

-- the entry with this number is an add on x that t asked for
abbrev pub IsAddOf : List Entry → Txn → Ob → ℕ → Type 0
IsAddOf entries t x m = (d : ℤ) × (entry_at entries m ≡ Some (Add t x d, Reply'.Done))

-- each of the adds is one that t asked for, or one whose responsible transaction has committed
unfoldable pub AreOwnOrCommitted : List Entry → Txn → Ob → List Numbered → Type 0
AreOwnOrCommitted entries t x [] = Unit {0}
AreOwnOrCommitted entries t x (found ∷ older) = (IsAddOf entries t x found.0 ⊎ (was_committed (end_of (applied entries) found.1.owner) ≡ true)) × AreOwnOrCommitted entries t x older

-- a source is the opening, a write that t asked for, or a write whose responsible transaction has committed
abbrev pub IsOwnOrCommitted : List Entry → Txn → Ob → Option Numbered → Type 0
IsOwnOrCommitted entries t x None = Unit {0}
IsOwnOrCommitted entries t x (Some found) = IsWriteOf entries t x found.0 ⊎ (was_committed (end_of (applied entries) found.1.owner) ≡ true)
