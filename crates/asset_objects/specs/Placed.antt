-- How the table is stored: the objects in the order of the opening, and of each the value in place and the records of the
-- updates that stand, oldest first. The record of a write has what the write found, and that of an add its amount.
use Rattle.std.specs.Prelude.{◌≡◌, ℕ, ℤ, ◌-ℤ◌, pos, ◌+◌, ◌<◌, Bool, true, false, List, [], ◌∷◌, length, map, slice_get, slice_index_or, Option, Some, None}
use Rattle.std.specs.Int.{w64, int_wrap}
use Rattle.asset_names.specs.declared.names.Ob.{Ob}
use Rattle.asset_names.specs.declared.sets.ObSet.{ObSet}
use Rattle.asset_names.specs.InSet.{in_set}
use Rattle.asset_names.specs.Steps.{Opening}
use Rattle.asset_records.specs.declared.mending.Mend.{Mend}
use Rattle.asset_records.specs.Mended.{mended}
use Rattle.asset_records.specs.declared.records.Record.{Record}
use Rattle.asset_records.specs.declared.records.Record.TheVariants.{Write, Add, Lasting}
use Rattle.slab.specs.Slab.{slab_len}
use Rattle.asset_chains.specs.Crossed.{Crossed, has_room}
use Rattle.asset_seats.specs.Seated.{Seated}
use Rattle.asset_records.specs.Listed.{lists_in, on, seat_column, IsTied as AreTied}
use Rattle.asset_objects.specs.Cells.{Cell, ObjectTable, wrote, added, fresh, updated, lasting}

-- a value as 64 bits
abbrev pub word : ℤ → ℤ
word value = int_wrap w64 value

-- the value below a record, by the value above it
unfoldable pub below : ℤ → Record → ℤ
below value (Write owner before) = word before
below value (Add owner amount) = word (value -ℤ amount)
below value (Lasting amount) = word (value -ℤ amount)

-- the value below all of the records, by the value in place
unfoldable pub base_of : List Record → ℤ → ℤ
base_of [] value = word value
base_of (first ∷ later) value = below (base_of later value) first

-- the cell with the update of one more record, by the value above it
unfoldable pub stood : Record → ℤ → Cell → Cell
stood (Write owner before) value cell = updated (Some owner.0) (wrote value) cell
stood (Add owner amount) value cell = updated (Some owner.0) (added amount) cell
stood (Lasting amount) value cell = lasting amount cell

-- the cell with the updates of these records, oldest first, by the value in place
unfoldable pub grown : Cell → List Record → ℤ → Cell
grown cell [] value = cell
grown cell (first ∷ later) value = grown (stood first (base_of later value) cell) later value

-- an object with these records and this value in place
unfoldable pub recorded_cell : List Record → ℤ → Cell
recorded_cell records value = grown (fresh (base_of records value)) records value

-- the value in place of an object
unfoldable pub value_at : List ℤ → ℕ → ℤ
value_at values i = slice_index_or values i (pos 0)

-- the cell of the object with this index
unfoldable pub cell_at : List ℤ → List (List Record) → ℕ → Cell
cell_at values lists i = recorded_cell (on lists i) (value_at values i)

-- the value in place once what is left to mend, if anything is, is mended
unfoldable pub restored_value : Option Mend → ℤ → ℤ
restored_value None value = value
restored_value (Some mend) value = mended mend value

-- the rows of these objects, whose indexes begin at i
unfoldable pub rows_from : ℕ → List Ob → List ℤ → List (List Record) → List (ℕ × Cell)
rows_from i [] values lists = []
rows_from i (x ∷ xs) values lists = (x.0, cell_at values lists i) ∷ rows_from (i + 1) xs values lists

-- whether there is an object, and it is in the set
unfoldable pub is_in : ObSet → Option Ob → Bool
is_in set None = false
is_in set (Some x) = in_set set x.0

-- what callers see
unfoldable pub object_table : List Ob → List ℤ → List (List Record) → Bool → ℕ → ObjectTable
object_table objects values lists reserved visits = record { rows = rows_from 0 objects values lists; reserved = reserved; visits = visits }

-- the parts of a table by seat: the objects, their values in place, their records in rows and columns, whether one more update
-- is reserved, and how many records the last end or hand-over visited
pub record ObjectParts : Type 0 where
  pub objects : List Ob
  pub values : List ℤ
  pub records : Crossed Record
  pub reserved : Bool
  pub visits : ℕ

-- what callers see of the parts
abbrev pub objects_in : ObjectParts → ObjectTable
objects_in parts = object_table parts.objects parts.values (lists_in parts.records) parts.reserved parts.visits

-- each record is in the column of its owner's seat, or in the first one if it is nobody's, and each seat that is taken has its
-- column
abbrev pub IsTied : ObjectParts → Seated → Type 0
IsTied parts seats = AreTied parts.records seats

-- the seat has its column
abbrev pub HasRoom : ObjectParts → ℕ → Type 0
HasRoom parts c = seat_column c < length parts.records.columns.chains

-- there are as many values in place and as many lists of records as objects; if one more update is reserved, the records have
-- room for one more
pub record IsPlaced (parts : ObjectParts) : Type 0 where
  pub valued : length parts.values ≡ length parts.objects
  pub many : length (lists_in parts.records) ≡ length parts.objects
  pub room : parts.reserved ≡ true → has_room parts.records ≡ true

-- the table by name: it is tied to the seats, and each seat has its column; if there is a record, there are more seats than
-- records; if an update is reserved, there are at least two more
pub record IsSpared (parts : ObjectParts) (seats : Seated) : Type 0 where
  pub tied : IsTied parts seats
  pub columns : (c : ℕ) → c < length seats.slots → HasRoom parts c
  pub spare : 0 < slab_len parts.records.items → slab_len parts.records.items < length seats.slots
  pub room : parts.reserved ≡ true → slab_len parts.records.items + 1 < length seats.slots

-- the objects of an opening at their opening values, which fit into 64 bits, with no record
pub record IsOpened (opening : Opening) (objects : List Ob) (values : List ℤ) (lists : List (List Record)) : Type 0 where
  pub named : objects ≡ map (λ (pair : Ob × ℤ). pair.0) opening
  pub valued : values ≡ map (λ (pair : Ob × ℤ). pair.1) opening
  pub fits : map word values ≡ values
  pub many : length lists ≡ length opening
  pub none : (i : ℕ) → on lists i ≡ []

-- whether the object with this index is in the set
unfoldable pub is_among : List Ob → ObSet → ℕ → Bool
is_among objects set i = is_in set (slice_get objects i)
