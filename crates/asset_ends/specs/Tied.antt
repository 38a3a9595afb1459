-- What ties the tables to the seats.
use Rattle.std.specs.Prelude.{◌≡◌, ℕ, List}
use Rattle.asset_seats.specs.Seated.{Seated}
use Rattle.asset_objects.specs.Placed as Objects
use Rattle.asset_permits.specs.Valid as Permits
use Rattle.asset_locks.specs.Tied as Locks
use Rattle.asset_deps.specs.Valid as Deps
use Rattle.asset_trans.specs.TransRows.{NamedTransRow}
use Rattle.asset_ends.specs.declared.parts.Parts.{Parts}
use Rattle.asset_ends.specs.Standing.{AreEnrolled, LiveAreSeated}

-- The updates of somebody, the locks, the permits and the dependencies are those of transactions that have seats. The locks
-- know each object by the number that it has among the objects.
pub record AreTied (written : Objects.ObjectParts) (table : Locks.LockParts) (given : Permits.PermitTable) (links : Deps.LinkTable) (seating : Seated) : Type 0 where
  pub objects : Objects.IsTied written seating
  pub locks : Locks.IsTied table seating
  pub permits : Permits.IsTied given seating
  pub deps : Deps.IsTied links seating
  pub numbers : table.store.objects ≡ written.objects

-- the tables are tied to the seats that stand beside them
abbrev pub PartsAreTied : Parts → Type 0
PartsAreTied p = AreTied p.objects p.locks p.permits p.deps p.seats

-- the seat has room in each table
pub record HasRoom (written : Objects.ObjectParts) (table : Locks.LockParts) (given : Permits.PermitTable) (links : Deps.LinkTable) (c : ℕ) : Type 0 where
  pub objects : Objects.HasRoom written c
  pub locks : Locks.HasRoom table c
  pub permits : Permits.HasRoom given c
  pub deps : Deps.HasRoom links c

-- the live are enrolled for locks, and they have the seats, to which the tables are tied
pub record IsValid (rows : List NamedTransRow) (seating : Seated) (written : Objects.ObjectParts) (table : Locks.LockParts) (given : Permits.PermitTable) (links : Deps.LinkTable) : Type 0 where
  pub locks : AreEnrolled rows (Locks.rows_in seating table)
  pub seats : LiveAreSeated rows seating
  pub tied : AreTied written table given links seating

-- the tables and the seats beside them are valid together
abbrev pub PartsAreValid : Parts → Type 0
PartsAreValid p = IsValid p.trans p.seats p.objects p.locks p.permits p.deps
