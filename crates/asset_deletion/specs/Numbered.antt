-- Groups by number, in order of their first nodes, and the numbers of the first nodes as they are read from labels and flags.
use Rattle.std.specs.Prelude.{◌≡◌, ℕ, suc, zero, ◌<◌, Bool, false, not, cond, ◌==◌, List, length, map, slice_index, slice_index_or}
use Rattle.asset_name_groups.specs.NamesInGroups.{NamesInGroups, flag_at}

-- how many groups have their first node among the first n nodes
unfoldable pub groups_before : List ℕ → ℕ → ℕ
groups_before labels zero = 0
groups_before labels (suc n) = cond (slice_index labels n == n) (suc (groups_before labels n)) (groups_before labels n)

-- the number of each node's group: how many groups have a lesser label
unfoldable pub group_numbers : List ℕ → List ℕ
group_numbers labels = map (groups_before labels) labels

-- how many groups there are
unfoldable pub group_count : List ℕ → ℕ
group_count labels = groups_before labels (length labels)

-- the number of a node's group
abbrev pub number_of : NamesInGroups → ℕ → ℕ
number_of kept k = groups_before kept.labels (slice_index kept.labels k)

-- The groups of the first n nodes are counted, and one is dead if it is not flagged.
pub record AreCounted (kept : NamesInGroups) (is_dead : List Bool) (n : ℕ) : Type 0 where
  pub count : length is_dead ≡ groups_before kept.labels n
  pub dead : (k : ℕ) → k < n → slice_index_or is_dead (number_of kept k) false ≡ not (flag_at kept.flags k)

-- Each of the first n nodes has the number of its group.
pub record AreNumbered (kept : NamesInGroups) (numbers : List ℕ) (n : ℕ) : Type 0 where
  pub long : length numbers ≡ n
  pub each : (k : ℕ) → k < n → slice_index numbers k ≡ number_of kept k
