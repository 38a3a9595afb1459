-- How items in rows and columns are stored: each with both of its links, in a slab.
use Rattle.std.specs.Prelude.{◌≡◌, ℕ, ◌+◌, ◌<◌, ◌^◌, true, List, length, map, Option, Some, None, is_some, option_map}
use Rattle.slab.specs.Slab.{Slab, get}
use Rattle.asset_chains.specs.declared.links.Link.{Link}
use Rattle.asset_chains.specs.declared.heads.Head.{Head}
use Rattle.asset_chains.specs.declared.side.Side.{Side}
use Rattle.asset_chains.specs.declared.side.Side.TheVariants.{Row, Column}
use Rattle.asset_chains.specs.declared.slots.Slot.{Slot}
use Rattle.asset_chains.specs.Linked.{no_link, seen, Stores}
use Rattle.asset_chains.specs.Crossed.{Crossed}

module _ {T : Type 0} where
  -- the link of a slot on a side
  abbrev pub side_link : Side → Slot T → Link
  side_link Row slot = slot.row
  side_link Column slot = slot.column

  -- the link on a side of what is at a key
  abbrev pub link_in : Side → Option (Slot T) → Link
  link_in side None = no_link
  link_in side (Some slot) = side_link side slot

  -- the links on a side, by key
  abbrev pub links_of : Side → Slab (Slot T) → List Link
  links_of side slots = map (link_in side) slots.slots

  -- the items without their links
  abbrev pub values_of : Slab (Slot T) → Slab T
  values_of slots = record { slots = map (option_map (λ (slot : Slot T). slot.item)) slots.slots; vacant_key = slots.vacant_key; capacity = slots.capacity }

  -- what is seen of slots and heads
  abbrev pub crossed : Slab (Slot T) → List Head → List Head → Crossed T
  crossed slots rows columns = record { items = values_of slots; rows = seen (links_of Row slots) rows; columns = seen (links_of Column slots) columns }

  -- on this side the links and heads are those of the chains that are seen, and the numbers of chains fit
  pub record IsLined (side : Side) (slots : Slab (Slot T)) (heads : List Head) : Type 0 where
    pub stored : Stores (links_of side slots) heads (seen (links_of side slots) heads)
    pub few : length heads < 2 ^ 32

  -- each item is in a row and in a column, and numbers fit
  pub record AreCrossed (slots : Slab (Slot T)) (rows columns : List Head) : Type 0 where
    pub by_row : IsLined Row slots rows
    pub by_column : IsLined Column slots columns
    pub few : (k : ℕ) → is_some (get slots k) ≡ true → k + 1 < 2 ^ 32
    pub in_row : (k : ℕ) → is_some (get slots k) ≡ true → 0 < (link_in Row (get slots k)).home
    pub in_column : (k : ℕ) → is_some (get slots k) ≡ true → 0 < (link_in Column (get slots k)).home
