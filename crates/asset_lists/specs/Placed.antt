-- How lists of keys are stored: of each list its keys, those of the front part first and those of the back part last, and of
-- each key its list, as the number of the list and 1, or 0 for none, and its position there.
use Rattle.std.specs.Prelude.{◌≡◌, ℕ, ◌==◌, ◌<◌, ◌≤◌, ◌^◌, nat_lt, suc, zero, cond, List, [], Option, None, Some, length, map, slice_index_or}
use Rattle.asset_lists.specs.declared.part.Part.{Part}
use Rattle.asset_lists.specs.declared.part.Section.{Section}
use Rattle.asset_lists.specs.declared.part.Section.TheVariants.{Front, Middle, Back}
use Rattle.asset_lists.specs.declared.rows.Row.{Row}
use Rattle.asset_lists.specs.declared.rows.Place.{Place}
use Rattle.asset_lists.specs.Parted.{Parted, IsAt}

-- a list without keys
abbrev pub no_row : Row
no_row = record { keys = record { items = []; capacity = 0 }; front = 0; back = 0 }

-- the place of a key in no list
abbrev pub no_place : Place
no_place = record { home = 0; position = 0 }

-- what is stored of a list; a list without keys past the last one
abbrev pub row_at : List Row → ℕ → Row
row_at rows x = slice_index_or rows x no_row

-- the keys of a list
abbrev pub keys_of : List Row → ℕ → List ℕ
keys_of rows x = (row_at rows x).keys.items

-- the part of a list that a position is in, where the front part ends here and the back part begins there
unfoldable pub section_in : ℕ → ℕ → ℕ → Section
section_in front back position = cond (nat_lt position front) Front (cond (nat_lt position back) Middle Back)

-- the part of a stored list that a position is in
abbrev pub section_at : Row → ℕ → Section
section_at row position = section_in row.front row.back position

-- the place of a key; that of a key in no list past the last one
abbrev pub place_at : List Place → ℕ → Place
place_at places k = slice_index_or places k no_place

-- the part of a stored home and a position there, where these are the lists
abbrev pub part_in : (ℕ → Row) → ℕ → ℕ → Option Part
part_in row zero position = None
part_in row (suc x) position = Some (record { list = x; section = section_at (row x) position })

-- what is seen of rows and places
abbrev pub seen : List Row → List Place → Parted
seen rows places = record {
  lists = length rows;
  parts = map (λ (place : Place). part_in (row_at rows) place.home place.position) places;
}

-- each key of a list has that list and its position there as its place, and a key with a list stands at its place
pub record IsPlaced (row : ℕ → List ℕ) (place : ℕ → Place) : Type 0 where
  pub listed : (x q k : ℕ) → IsAt (row x) q k → place k ≡ record { home = suc x; position = q }
  pub placed : (k x : ℕ) → (place k).home ≡ suc x → IsAt (row x) (place k).position k

-- the parts of a list are in order, and end within it
pub record IsSplit (row : Row) : Type 0 where
  pub middle : row.front ≤ row.back
  pub end : row.back ≤ length row.keys.items

-- rows and places agree, the parts of each list are in order, and all numbers are below 2 ^ 32
pub record IsValid (rows : List Row) (places : List Place) : Type 0 where
  pub placed : IsPlaced (keys_of rows) (place_at places)
  pub split : (x : ℕ) → IsSplit (row_at rows x)
  pub short : (x : ℕ) → length (keys_of rows x) < 2 ^ 32
  pub few_keys : length places < 2 ^ 32
  pub few_lists : length rows < 2 ^ 32

-- the position of the key that stood at i after those at p and q are swapped
abbrev pub swapped : ℕ → ℕ → ℕ → ℕ
swapped p q i = cond (i == p) q (cond (i == q) p i)

-- the keys at p and q are swapped
pub record IsSwapped (p q : ℕ) (old new : List ℕ) : Type 0 where
  pub same : length new ≡ length old
  pub moved : (i k : ℕ) → IsAt old i k → IsAt new (swapped p q i) k
  pub was : (i k : ℕ) → IsAt new i k → IsAt old (swapped p q i) k
