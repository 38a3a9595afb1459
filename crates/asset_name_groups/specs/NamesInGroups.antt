-- Names in groups: the name of each node, the label of its group, and whether its group is flagged.
use Rattle.std.specs.Prelude.{◌≡◌, ℕ, ◌+◌, ◌<◌, ◌≤◌, ◌^◌, Bool, false, cond, ◌||◌, ◌==◌, List, [], ◌∷◌, ◌++◌, length, map, slice_index, slice_index_or}
use Rattle.std.specs.List.{list_any, range_with_len}
use Rattle.asset_name_groups.specs.Labelled.{merged}

-- names in order; for each, by its node, the label of its group, which is the first node of it, and whether its group is flagged;
-- and how many names there is room for
pub record NamesInGroups : Type 0 where
  pub names : List ℕ
  pub labels : List ℕ
  pub flags : List Bool
  pub room : ℕ

-- no names, with room for some
unfoldable pub none_named : ℕ → NamesInGroups
none_named room = record { names = []; labels = []; flags = []; room = room }

-- whether the list has the name
unfoldable pub has_name : List ℕ → ℕ → Bool
has_name names t = list_any (λ name. name == t) names

-- with one more name, which is a group by itself without a flag
unfoldable pub one_more : NamesInGroups → ℕ → NamesInGroups
one_more groups t = record { names = groups.names ++ t ∷ []; labels = groups.labels ++ length groups.labels ∷ []; flags = groups.flags ++ false ∷ []; room = groups.room }

-- as they are if they have the name, or else with one more
unfoldable pub with_node : NamesInGroups → ℕ → NamesInGroups
with_node groups t = cond (has_name groups.names t) groups (one_more groups t)

-- whether the group of a node is flagged
unfoldable pub flag_at : List Bool → ℕ → Bool
flag_at flags k = slice_index_or flags k false

-- the flags once the groups of two labels are one, which is flagged if one of them is
unfoldable pub merged_flags : List ℕ → List Bool → ℕ → ℕ → List Bool
merged_flags labels flags a b = map (λ k. cond (slice_index labels k == a || slice_index labels k == b) (flag_at flags a || flag_at flags b) (flag_at flags k)) (range_with_len 0 (length labels))

-- with the groups of two nodes as one
unfoldable pub with_join : NamesInGroups → ℕ → ℕ → NamesInGroups
with_join groups i j = record { names = groups.names; labels = merged groups.labels (slice_index groups.labels i) (slice_index groups.labels j); flags = merged_flags groups.labels groups.flags (slice_index groups.labels i) (slice_index groups.labels j); room = groups.room }

-- the flags once the group of a label is flagged
unfoldable pub flags_with : List ℕ → List Bool → ℕ → List Bool
flags_with labels flags a = map (λ k. slice_index labels k == a || flag_at flags k) (range_with_len 0 (length labels))

-- with the group of a node flagged
unfoldable pub with_flag : NamesInGroups → ℕ → NamesInGroups
with_flag groups i = record { names = groups.names; labels = groups.labels; flags = flags_with groups.labels groups.flags (slice_index groups.labels i); room = groups.room }

-- No name is there twice, and each has a label and a flag. A label is the first node of its group, and nodes of one group have
-- one flag. There are no more names than there is room for, and the room and 1 fit into 32 bits.
pub record IsConsistent (groups : NamesInGroups) : Type 0 where
  pub different : (i j : ℕ) → i < length groups.names → j < length groups.names → slice_index groups.names i ≡ slice_index groups.names j → i ≡ j
  pub each_has_label : length groups.labels ≡ length groups.names
  pub each_has_flag : length groups.flags ≡ length groups.names
  pub within : length groups.names ≤ groups.room
  pub small : groups.room + 1 < 2 ^ 32
  pub least : (k : ℕ) → k < length groups.names → slice_index groups.labels k ≤ k
  pub own : (k : ℕ) → k < length groups.names → slice_index groups.labels (slice_index groups.labels k) ≡ slice_index groups.labels k
  pub alike : (i j : ℕ) → i < length groups.names → j < length groups.names → slice_index groups.labels i ≡ slice_index groups.labels j → flag_at groups.flags i ≡ flag_at groups.flags j
