-- Permits, each in the row of its giver and in the column of its taker. The number of a row or a column is the seat of the
-- transaction.
use Rattle.std.specs.Prelude.{◌≡◌, ℕ, ◌<◌, Bool, true, ◌||◌, List, length, Option, Some, is_some, filter_map}
use Rattle.slab.specs.Slab.{Slab, get}
use Rattle.asset_chains.specs.Chained.{Chained, chain_of, home_of, first_of}
use Rattle.asset_chains.specs.Crossed.{Crossed}
use Rattle.asset_seats.specs.Seated.{Seated, seat}
use Rattle.asset_permits.specs.Descriptors.{Descriptor}

-- the permits, by rising key
unfoldable pub descriptors_of : Slab Descriptor → List Descriptor
descriptors_of permits = filter_map (λ (slot : Option Descriptor). slot) permits.slots

-- the permits by key, their rows, their columns, and the seats
pub record Parts : Type 0 where
  pub permits : Slab Descriptor
  pub along : Chained
  pub across : Chained
  pub seats : Seated

-- the parts, made of these
abbrev pub parts : Slab Descriptor → Chained → Chained → Seated → Parts
parts permits along across seats = record { permits = permits; along = along; across = across; seats = seats }

-- the parts of a table
abbrev pub parts_of : Crossed Descriptor → Seated → Parts
parts_of permits seats = parts permits.items permits.rows permits.columns seats

-- whether a permit is in the row or in the column of a seat
unfoldable pub is_used : Chained → Chained → ℕ → Bool
is_used along across c = is_some (first_of (chain_of along c)) || is_some (first_of (chain_of across c))

-- exactly the permits have homes
pub record IsSeated (p : Parts) : Type 0 where
  pub along : (k : ℕ) → is_some (get p.permits k) ≡ is_some (home_of p.along k)
  pub across : (k : ℕ) → is_some (get p.permits k) ≡ is_some (home_of p.across k)

-- exactly the seats that are taken have permits in their row or column
abbrev pub IsUsed : Crossed Descriptor → Seated → Type 0
IsUsed permits seats = (c : ℕ) → is_some (seat seats c) ≡ is_used permits.rows permits.columns c

-- a permit's home is the seat of its giver, or of its taker
abbrev pub IsNamed : (Descriptor → ℕ) → Slab Descriptor → Chained → Seated → Type 0
IsNamed name_of permits table seats =
    (k c : ℕ) (d : Descriptor) → get permits k ≡ Some d → home_of table k ≡ Some c → seat seats c ≡ Some (record { 0 = name_of d })

-- each seat that is taken has its chains and its mark
abbrev pub IsWithin : Chained → Chained → Seated → ℕ → Type 0
IsWithin along across seats size = (c : ℕ) → is_some (seat seats c) ≡ true → (c < length along.chains) × (c < length across.chains) × (c < size)

-- exactly the permits have homes, a permit's homes are the seats of its giver and its taker, no permit stands twice, and each
-- seat that is taken has its chains and its mark
pub record IsValid (p : Parts) (size : ℕ) : Type 0 where
  pub seated : IsSeated p
  pub given : IsNamed (λ (d : Descriptor). d.giver) p.permits p.along p.seats
  pub taken : IsNamed (λ (d : Descriptor). d.taker) p.permits p.across p.seats
  pub single : (j k : ℕ) (d : Descriptor) → get p.permits j ≡ Some d → get p.permits k ≡ Some d → j ≡ k
  pub within : IsWithin p.along p.across p.seats size

-- ---- the table by seat
-- the permits in rows and columns, and how many seats have a mark
pub record PermitTable : Type 0 where
  pub permits : Crossed Descriptor
  pub size : ℕ

-- the permits that stand
abbrev pub permits_in : PermitTable → List Descriptor
permits_in table = descriptors_of table.permits.items

-- whether the seat is of one who gives or takes something
abbrev pub used_in : PermitTable → ℕ → Bool
used_in table c = is_used table.permits.rows table.permits.columns c

-- who gives or takes something has the seat of its row and column, no permit stands twice, and each seat that is taken has room
abbrev pub IsTied : PermitTable → Seated → Type 0
IsTied table seats = IsValid (parts_of table.permits seats) table.size

-- the seat has its row, its column and its mark
abbrev pub HasRoom : PermitTable → ℕ → Type 0
HasRoom table c = (c < length table.permits.rows.chains) × (c < length table.permits.columns.chains) × (c < table.size)
