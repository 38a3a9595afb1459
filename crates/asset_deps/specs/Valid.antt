-- Dependencies, each in the row of its source and in the column of its dependent. The number of a row or a column is the
-- seat of the transaction, and who has a seat is enrolled.
use Rattle.std.specs.Prelude.{◌≡◌, ℕ, ◌<◌, true, List, length, map, Option, Some, is_some, filter_map, unwrap_or, option_map}
use Rattle.slab.specs.Slab.{Slab, get, values}
use Rattle.asset_names.specs.declared.names.Txn.{Txn}
use Rattle.asset_names.specs.Arrows.{lists}
use Rattle.asset_chains.specs.Chained.{Chained, home_of}
use Rattle.asset_chains.specs.Crossed.{Crossed}
use Rattle.asset_seats.specs.Seated.{Seated, seat}
use Rattle.asset_marks.specs.Marked.{Met}
use Rattle.asset_deps.specs.Dependencies.{Dependency}

-- the dependencies, by rising key
unfoldable pub dependencies_of : Slab Dependency → List Dependency
dependencies_of links = values links

-- who has a seat, by rising seat
unfoldable pub names_of : Seated → List ℕ
names_of seats = filter_map (λ (slot : Option Txn). option_map (λ (t : Txn). t.0) slot) seats.slots

-- who has a seat; 0 stands for nobody
unfoldable pub name_at : Seated → ℕ → ℕ
name_at seats c = unwrap_or (option_map (λ (t : Txn). t.0) (seat seats c)) 0

-- who has the seats that are marked
unfoldable pub marked_of : Seated → List ℕ → List ℕ
marked_of seats nodes = map (name_at seats) nodes

-- the dependencies by key, their rows, their columns, and the seats
pub record Parts : Type 0 where
  pub links : Slab Dependency
  pub along : Chained
  pub across : Chained
  pub seats : Seated

-- the parts, made of these
abbrev pub parts : Slab Dependency → Chained → Chained → Seated → Parts
parts links along across seats = record { links = links; along = along; across = across; seats = seats }

-- exactly the dependencies have homes
pub record IsPlaced (links : Slab Dependency) (on back : Chained) : Type 0 where
  pub along : (k : ℕ) → is_some (get links k) ≡ is_some (home_of on k)
  pub across : (k : ℕ) → is_some (get links k) ≡ is_some (home_of back k)

-- a dependency's home is the seat of its source, or of its dependent
abbrev pub IsNamed : (Dependency → ℕ) → Slab Dependency → Chained → Seated → Type 0
IsNamed name_of links table seats =
    (k c : ℕ) (d : Dependency) → get links k ≡ Some d → home_of table k ≡ Some c → seat seats c ≡ Some (record { 0 = name_of d })

-- each seat that is taken has its chains and its marks
abbrev pub IsWithin : Chained → Chained → Seated → ℕ → ℕ → Type 0
IsWithin along across seats size room = (c : ℕ) → is_some (seat seats c) ≡ true → (c < length along.chains) × (c < length across.chains) × (c < size) × (c < room)

-- the seats that are marked are taken
abbrev pub AreTaken : Seated → List ℕ → Type 0
AreTaken seats nodes = (c : ℕ) → lists nodes c ≡ true → is_some (seat seats c) ≡ true

-- exactly the dependencies have homes, a dependency's homes are the seats of its source and its dependent, each seat that is
-- taken has its chains and its marks, none is marked that is not taken, and no dependency is stored twice
pub record IsValid (p : Parts) (size : ℕ) (marked : Met) : Type 0 where
  pub placed : IsPlaced p.links p.along p.across
  pub sources : IsNamed (λ (d : Dependency). d.source) p.links p.along p.seats
  pub dependents : IsNamed (λ (d : Dependency). d.dependent) p.links p.across p.seats
  pub within : IsWithin p.along p.across p.seats size marked.size
  pub taken : AreTaken p.seats marked.nodes
  pub single : (j k : ℕ) (d : Dependency) → get p.links j ≡ Some d → get p.links k ≡ Some d → j ≡ k

-- ---- the table by seat
-- the dependencies in rows and columns, how many seats have a mark for searches, and the marks of those who end
pub record LinkTable : Type 0 where
  pub links : Crossed Dependency
  pub size : ℕ
  pub marked : Met

-- the dependencies that stand
abbrev pub dependencies_in : LinkTable → List Dependency
dependencies_in table = dependencies_of table.links.items

-- who is marked
abbrev pub marked_in : Seated → LinkTable → List ℕ
marked_in seats table = marked_of seats table.marked.nodes

-- who depends or is depended on has the seat of its row and column, who is marked has a seat, no dependency is stored twice,
-- and each seat that is taken has room
abbrev pub IsTied : LinkTable → Seated → Type 0
IsTied table seats = IsValid (parts table.links.items table.links.rows table.links.columns seats) table.size table.marked

-- the seat has its row, its column and its marks
abbrev pub HasRoom : LinkTable → ℕ → Type 0
HasRoom table c = (c < length table.links.rows.chains) × (c < length table.links.columns.chains) × (c < table.size) × (c < table.marked.size)
