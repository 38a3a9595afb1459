-- What becomes of the tables as transactions end.
use Rattle.std.specs.Prelude.{◌≡◌, ℕ, Bool, cond, ◌&&◌, not, List, Option, Some, None}
use Rattle.asset_names.specs.declared.names.Txn.{Txn}
use Rattle.asset_names.specs.declared.operations.Op.{Op}
use Rattle.asset_names.specs.declared.statuses.End.{End}
use Rattle.asset_names.specs.declared.steps.Kind.{Kind}
use Rattle.asset_names.specs.Arrows.{has_arrow}
use Rattle.asset_objects.specs.Placed.{ObjectParts, objects_in}
use Rattle.asset_objects.specs.Cells.{cells, ended, change_each}
use Rattle.asset_locks.specs.LockTable as Locks
use Rattle.asset_locks.specs.Tied.{LockParts, rows_in}
use Rattle.asset_permits.specs.Descriptors.{Descriptor, one_covers, opens}
use Rattle.asset_permits.specs.Valid.{PermitTable, permits_in}
use Rattle.asset_seats.specs.Seated.{Seated, seat}
use Rattle.asset_deps.specs.Dependencies.{Dependency, arrows_of}
use Rattle.asset_deps.specs.Valid.{LinkTable, dependencies_in, marked_in}
use Rattle.asset_trans.specs.TransRows.{NamedTransRow, set_in, ended_as}
use Rattle.asset_ends.specs.declared.parts.Parts.{Parts}

-- what the five tables hold, and the seats
abbrev pub parts : Seated → List NamedTransRow → ObjectParts → LockParts → PermitTable → LinkTable → Parts
parts seats trans objects locks permits deps = record { seats = seats; trans = trans; objects = objects; locks = locks; permits = permits; deps = deps }

-- the rows of those who are enrolled for locks
abbrev pub locks_of : Parts → Locks.LockTable
locks_of tables = rows_in tables.seats tables.locks

-- who is marked
abbrev pub marked_by : Parts → List ℕ
marked_by tables = marked_in tables.seats tables.deps

-- no descriptor of one who passes the test, as the giver or the taker, covers anything any more; the others cover what they did
abbrev pub PermitsGo : (ℕ → Bool) → List Descriptor → List Descriptor → Type 0
PermitsGo test before later = (u n x : ℕ) (op : Op) → one_covers later u n x op ≡ (one_covers before u n x op && not (test u) && not (test n))

-- those who pass the test open nothing any more, and the others open what they did
abbrev pub OpenersGo : (ℕ → Bool) → List Descriptor → List Descriptor → Type 0
OpenersGo test before later = (u x : ℕ) (op : Op) → opens later u x op ≡ (opens before u x op && not (test u))

-- the dependencies of those who pass the test, and on them, have gone, and the others stand
abbrev pub DependenciesGo : (ℕ → Bool) → List Dependency → List Dependency → Type 0
DependenciesGo test before later = (k : Kind) (u v : ℕ) → has_arrow (arrows_of k later) u v ≡ (has_arrow (arrows_of k before) u v && not (test u) && not (test v))

-- who has a seat once those who pass the test have left theirs
unfoldable pub unless_gone : (ℕ → Bool) → Option Txn → Option Txn
unless_gone test None = None
unless_gone test (Some t) = cond (test t.0) None (Some t)

-- those who pass the test have ended in this way: they have the status, their updates stand for good or are taken away, their locks
-- and permits are gone, they have no dependencies any more, and they have left their seats
pub record AreEnded (test : ℕ → Bool) (how : End) (before later : Parts) : Type 0 where
  pub rows : later.trans ≡ set_in test (ended_as how) before.trans
  pub objects : cells (objects_in later.objects) ≡ change_each (ended how test) (cells (objects_in before.objects))
  pub locks : locks_of later ≡ Locks.release_in test (locks_of before)
  pub permits : PermitsGo test (permits_in before.permits) (permits_in later.permits)
  pub openers : OpenersGo test (permits_in before.permits) (permits_in later.permits)
  pub deps : DependenciesGo test (dependencies_in before.deps) (dependencies_in later.deps)
  pub seats : (c : ℕ) → seat later.seats c ≡ unless_gone test (seat before.seats c)
