-- What the groups of a history are, in the words of a reader.
use Rattle.std.specs.Prelude.{◌≡◌, ◌≢◌, ℕ, ◌<◌, false, nat_eq, List, length, slice_index, slice_index_or}
use Rattle.asset_names.specs.Arrows.{lists}
use Rattle.asset_names.specs.Steps.{Entry}
use Rattle.asset_names.specs.Groups.{same_group, acted_on, dead}
use Rattle.asset_names.specs.Orderly.{Distinct}
use Rattle.asset_deletion.specs.Grouping.{Grouping}

-- the name at the index is the first of its group: no name before it has its number
abbrev pub IsFirstOfGroup : List ℕ → ℕ → Type 0
IsFirstOfGroup numbers k = (m : ℕ) → m < k → slice_index numbers m ≢ slice_index numbers k

-- The names are exactly those that some step acts on, each once. Each has a number below the count, and two have one number
-- exactly if they are of one group. Each number below the count is that of some name, and numbers rise with the first names of
-- groups. Each name has a mark, which says whether its group is dead.
pub record AreGroups (entries : List Entry) (groups : Grouping) : Type 0 where
  pub acted_on : (n : ℕ) → lists groups.names n ≡ lists (acted_on entries) n
  pub once : Distinct groups.names
  pub long : length groups.numbers ≡ length groups.names
  pub below : (k : ℕ) → k < length groups.names → slice_index groups.numbers k < groups.count
  pub same : (i j : ℕ) → i < length groups.names → j < length groups.names →
      nat_eq (slice_index groups.numbers i) (slice_index groups.numbers j) ≡ same_group entries (slice_index groups.names i) (slice_index groups.names j)
  pub occurs : (g : ℕ) → g < groups.count → (k : ℕ) × (k < length groups.names) × (slice_index groups.numbers k ≡ g)
  pub rising : (i j : ℕ) → i < j → j < length groups.names → IsFirstOfGroup groups.numbers i → IsFirstOfGroup groups.numbers j → slice_index groups.numbers i < slice_index groups.numbers j
  pub marks : length groups.dead ≡ length groups.names
  pub marked : (k : ℕ) → k < length groups.names → slice_index_or groups.dead k false ≡ dead entries (slice_index groups.names k)
