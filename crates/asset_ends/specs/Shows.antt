-- When the tables show a history.
use Rattle.std.specs.Prelude.{◌≡◌, ℕ, ℤ, Bool, cond, ◌==◌, ◌&&◌, List, [], ◌∷◌, filter, reverse, Option, option_map}
use Rattle.asset_names.specs.declared.operations.Op.{Op}
use Rattle.asset_names.specs.declared.statuses.End.{End}
use Rattle.asset_names.specs.declared.steps.Kind.{Kind}
use Rattle.asset_names.specs.declared.steps.Step.{Step}
use Rattle.asset_names.specs.Steps.{Opening, initiated, parent_of}
use Rattle.asset_names.specs.Endings.{dependencies, end_of, live, status}
use Rattle.asset_names.specs.Arrows.{lists, has_arrow}
use Rattle.asset_names.specs.Operations.{Use, Operation, operations, opening_at, holds, permits, openers}
use Rattle.asset_names.specs.Operations.Use.{reads, writes, adds}
use Rattle.asset_objects.specs.Cells.{Cell, Cells, wrote, added, fresh, placed}
use Rattle.asset_permits.specs.Descriptors.{Descriptor, one_covers, opens}
use Rattle.asset_deps.specs.Dependencies.{Dependency, arrows_of}
use Rattle.asset_locks.specs.LockTable as Locks
use Rattle.asset_trans.specs.TransRows.{NamedTransRow, names_of, status_in, parent_in}

-- what an operation makes of its object, by how its owner ended: a read leaves it
unfoldable pub used : Option End → ℕ → Use → Cell → Cell
used end owner reads cell = cell
used end owner (writes v) cell = placed end owner (wrote v) cell
used end owner (adds d) cell = placed end owner (added d) cell

-- the cell of x after the operations, newest first, over its first value; `ends` says how each transaction
-- ended
unfoldable pub cell_after : (ℕ → Option End) → ℕ → ℤ → List Operation → Cell
cell_after ends x first [] = fresh first
cell_after ends x first (o ∷ older) = cond (o.object == x) (used (ends o.owner) o.owner o.use_of (cell_after ends x first older)) (cell_after ends x first older)

-- the cell of an object after the steps, if the object exists
unfoldable pub cell_of : Opening → List Step → ℕ → Option Cell
cell_of opening steps x = option_map (λ first. cell_after (end_of steps) x first (operations steps)) (opening_at opening x)

-- a permit that stands: it lets the taker do op on x, and both transactions are live
unfoldable pub permitted : List Step → ℕ → ℕ → ℕ → Op → Bool
permitted steps giver taker x op = live steps giver && live steps taker && has_arrow (permits steps x op) giver taker

-- an opener that stands: it lets anybody do op on x, and it is live
unfoldable pub is_opener : List Step → ℕ → ℕ → Op → Bool
is_opener steps u x op = live steps u && lists (openers steps x op) u

-- a dependency that stands: it was made, and both transactions are live
unfoldable pub depended : List Step → Kind → ℕ → ℕ → Bool
depended steps kind source dependent = live steps source && live steps dependent && has_arrow (dependencies kind steps) source dependent

-- what the tables hold: the rows of the transactions, the cell of each object, the locks, the permits, and the
-- dependencies
pub record TableValues : Type 0 where
  pub rows : List NamedTransRow
  pub objects : Cells
  pub locks : Locks.LockTable
  pub permits : List Descriptor
  pub deps : List Dependency

-- what the tables hold, made of these
abbrev pub table_values : List NamedTransRow → Cells → Locks.LockTable → List Descriptor → List Dependency → TableValues
table_values rows objects locks permits deps = record { rows = rows; objects = objects; locks = locks; permits = permits; deps = deps }

-- The tables show the history of the steps that took effect: the transactions are those that were initiated, in order,
-- each with its status and parent; the cell of each object is that of the history; the live ones are enrolled in order
-- of initiation; a lock carries an operation exactly if its owner holds the object by it; a descriptor covers an
-- operation on an object exactly if a permit between live transactions lets it be done, and opens an object for an operation
-- exactly if its giver is a live opener; and a dependency of a kind leads from one transaction to another exactly if one was
-- made between them and both are live.
pub record Shows (opening : Opening) (steps : List Step) (tables : TableValues) : Type 0 where
  pub names : names_of tables.rows ≡ reverse (initiated steps)
  pub statuses : (t : ℕ) → status_in tables.rows t ≡ status steps t
  pub parents : (t : ℕ) → parent_in tables.rows t ≡ parent_of steps t
  pub cells : (x : ℕ) → tables.objects x ≡ cell_of opening steps x
  pub enrolled : Locks.names_in tables.locks ≡ filter (live steps) (reverse (initiated steps))
  pub locks : (t x : ℕ) (op : Op) → Locks.carries tables.locks t x op ≡ holds steps t x op
  pub permits_stand : (u t x : ℕ) (op : Op) → one_covers tables.permits u t x op ≡ permitted steps u t x op
  pub openers_stand : (u x : ℕ) (op : Op) → opens tables.permits u x op ≡ is_opener steps u x op
  pub dependencies_stand : (kind : Kind) (u v : ℕ) → has_arrow (arrows_of kind tables.deps) u v ≡ depended steps kind u v
