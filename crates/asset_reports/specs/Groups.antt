-- The lines of groups.
use Rattle.std.specs.Prelude.{ℕ, Bool, false, cond, List, [], ◌∷◌, ◌++◌, flat_map, slice_get, Option, None, Some, codes}
use Rattle.std.specs.Fmt.{decimal}
use Rattle.std.specs.List.{range_with_len}
use Rattle.asset_names.specs.Steps.{Entry}
use Rattle.asset_buckets.specs.Bucketed.{indices_of}
use Rattle.asset_deletion.specs.Grouping.{Grouping, grouping_of, dead_in}

-- a name after a space
unfoldable pub word_of : Option ℕ → List ℕ
word_of None = []
word_of (Some n) = 32 ∷ decimal n

-- the name at the index, after a space
unfoldable pub member_word : Grouping → ℕ → List ℕ
member_word groups k = word_of (slice_get groups.names k)

-- the names at the indices, each after a space
unfoldable pub members_text : Grouping → List ℕ → List ℕ
members_text groups members = flat_map (member_word groups) members

-- whether a name is of a dead group
unfoldable pub is_dead_name : Grouping → Option ℕ → Bool
is_dead_name groups None = false
is_dead_name groups (Some n) = dead_in groups n

-- whether members are dead, by the first of them: the members of a group are dead together
unfoldable pub members_are_dead : Grouping → List ℕ → Bool
members_are_dead groups [] = false
members_are_dead groups (k ∷ members) = is_dead_name groups (slice_get groups.names k)

-- the number of a group and its state: dead, or somebody has committed
unfoldable pub state_text : ℕ → Bool → List ℕ
state_text number is_dead = decimal number ++ cond is_dead (codes " dead") (codes " committed")

-- the line of a group with these members, by their indices
unfoldable pub group_text : Grouping → ℕ → List ℕ → List ℕ
group_text groups number members = state_text number (members_are_dead groups members) ++ members_text groups members ++ 10 ∷ []

-- the line of the group with this number: its names in order of first use
unfoldable pub group_line : Grouping → ℕ → List ℕ
group_line groups number = group_text groups number (indices_of number groups.numbers)

-- the lines of all groups, in order of number
unfoldable pub all_groups_text : Grouping → List ℕ
all_groups_text groups = flat_map (group_line groups) (range_with_len 0 groups.count)

-- the groups of entries as text
unfoldable pub groups_text : List Entry → List ℕ
groups_text entries = all_groups_text (grouping_of entries)
