-- When the parts of groups are valid.
use Rattle.std.specs.Prelude.{◌≡◌, ℕ, ◌+◌, ◌<◌, ◌≤◌, ◌^◌, List, length, slice_index}
use Rattle.asset_name_groups.specs.declared.links.Link.{Link}
use Rattle.asset_name_groups.specs.Index.{IsIndexed}
use Rattle.asset_name_groups.specs.Trees.{IsForest}

-- The names are indexed, and none is there twice; each has a link, and the links are a forest. There are no more names than
-- there is room for, the room is reserved, and the room and 1 fit into 32 bits.
pub record IsValid (names before last : List ℕ) (links : List Link) (room names_room before_room links_room : ℕ) : Type 0 where
  pub indexed : IsIndexed names before last
  pub different : (i j : ℕ) → i < length names → j < length names → slice_index names i ≡ slice_index names j → i ≡ j
  pub forest : IsForest links
  pub long : length links ≡ length names
  pub within : length names ≤ room
  pub small : room + 1 < 2 ^ 32
  pub for_names : room ≤ names_room
  pub for_before : room ≤ before_room
  pub for_links : room ≤ links_room
