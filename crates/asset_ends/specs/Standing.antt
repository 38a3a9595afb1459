-- What the tables hold together, and what they show.
use Rattle.std.specs.Prelude.{◌≡◌, ℕ, Bool, true, cond, not, ◌&&◌, ◌||◌, List, ◌∷◌, Some}
use Rattle.std.specs.List.{list_all}
use Rattle.asset_names.specs.declared.names.Txn.{Txn}
use Rattle.asset_names.specs.declared.operations.Op.{Op}
use Rattle.asset_names.specs.declared.steps.Step.{Step}
use Rattle.asset_names.specs.Arrows.{lists}
use Rattle.asset_names.specs.Endings.{is_live_status}
use Rattle.asset_names.specs.Answers.{is_completed}
use Rattle.asset_permits.specs.Descriptors.{Descriptor, one_covers, opens, leads_by, reaches_opener}
use Rattle.asset_objects.specs.Cells.{ObjectTable, cells, number_of}
use Rattle.asset_seats.specs.Seated.{Seated, seat}
use Rattle.asset_deps.specs.Dependencies.{Dependency, class_in, outside_source_in}
use Rattle.asset_locks.specs.LockTable as Locks
use Rattle.asset_trans.specs.TransRows.{NamedTransRow, names_of, status_in, seat_in}
use Rattle.asset_ends.specs.declared.ending.Tried.{Tried}
use Rattle.asset_ends.specs.declared.ending.Tried.TheVariants as Tried'
use Rattle.asset_ends.specs.Shows.{TableValues, table_values}

-- the rows of the transactions, the objects, the locks, the permits, and the dependencies
pub record Standing : Type 0 where
  pub trans : List NamedTransRow
  pub objects : ObjectTable
  pub locks : Locks.LockTable
  pub permits : List Descriptor
  pub deps : List Dependency

-- what the tables hold, each object by its cell
abbrev pub values_of : Standing → TableValues
values_of tables = table_values tables.trans (cells tables.objects) tables.locks tables.permits tables.deps

-- whether u allows t to do op on x, by the rows and the descriptors: a chain of permits leads from u to t, or t is live and such
-- a chain leads from u to an opener
unfoldable pub allows_in : List NamedTransRow → List Descriptor → ℕ → ℕ → ℕ → Op → Bool
allows_in rows descriptors u t x op = leads_by descriptors u t x op || is_live_status (status_in rows t) && reaches_opener descriptors u x op

-- the object is free by the locks
unfoldable pub is_free_for : Standing → ℕ → ℕ → Op → Bool
is_free_for tables t x op = Locks.is_free_in tables.locks (λ u. allows_in tables.trans tables.permits u t x op) t x op

-- the steps after one that takes effect only if something holds
unfoldable pub step_if : Bool → Step → List Step → List Step
step_if effect step steps = cond effect (step ∷ steps) steps

-- whether each member of t's class has completed, and no source of a member is outside it, by the rows and the dependencies
unfoldable pub class_may_commit_in : List NamedTransRow → List Dependency → ℕ → Bool
class_may_commit_in rows deps t = list_all (λ n. not (class_in deps t n) || is_completed (status_in rows n)) (names_of rows) && not (outside_source_in deps t)

-- the same, by the tables
abbrev pub may_commit_in : Standing → ℕ → Bool
may_commit_in tables t = class_may_commit_in tables.trans tables.deps t

-- what became of a commit, by whether the class may commit
unfoldable pub tried : Bool → Tried
tried may = cond may Tried'.Committed Tried'.Wait

-- the tables show the same as before
pub record SameView (later before : Standing) : Type 0 where
  pub rows : later.trans ≡ before.trans
  pub objects : cells later.objects ≡ cells before.objects
  pub numbers : (x : ℕ) → number_of later.objects x ≡ number_of before.objects x
  pub locks : later.locks ≡ before.locks
  pub permits : later.permits ≡ before.permits
  pub deps : later.deps ≡ before.deps

-- the tables show the same as before: the permits cover and open the same, in whatever order they stand
pub record SameViewInAnyOrder (later before : Standing) : Type 0 where
  pub rows : later.trans ≡ before.trans
  pub objects : cells later.objects ≡ cells before.objects
  pub numbers : (x : ℕ) → number_of later.objects x ≡ number_of before.objects x
  pub locks : later.locks ≡ before.locks
  pub permits : (u t x : ℕ) (op : Op) → one_covers later.permits u t x op ≡ one_covers before.permits u t x op
  pub openers : (u x : ℕ) (op : Op) → opens later.permits u x op ≡ opens before.permits u x op
  pub deps : later.deps ≡ before.deps

-- exactly those who are live by their status are enrolled for locks
unfoldable pub AreEnrolled : List NamedTransRow → Locks.LockTable → Type 0
AreEnrolled rows table = (t : ℕ) → lists (Locks.names_in table) t ≡ is_live_status (status_in rows t)

-- exactly those who are live by their status have seats, and the row of each says its seat
pub record LiveAreSeated (rows : List NamedTransRow) (seats : Seated) : Type 0 where
  pub seated : (t : Txn) → is_live_status (status_in rows t.0) ≡ true → seat seats (seat_in rows t.0) ≡ Some t
  pub live : (c : ℕ) (t : Txn) → seat seats c ≡ Some t → is_live_status (status_in rows t.0) ≡ true
