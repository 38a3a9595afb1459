-- The groups of a history as callers see them.
use Rattle.std.specs.Prelude.{ℕ, Bool, false, ◌==◌, nat_eq, List, map, Option, Some, None, position, slice_index, slice_index_or}
use Rattle.std.specs.List.{position_or_len}
use Rattle.std.specs.Option.{option_map}
use Rattle.asset_names.specs.Steps.{Entry}
use Rattle.asset_names.specs.Groups.{same_group, dead}
use Rattle.asset_history.specs.Named.{names_of}
use Rattle.asset_deletion.specs.Numbered.{group_numbers, group_count}

-- the names in order of first use, the number of each name's group, how many groups there are, and whether each name's
-- group is dead
pub record Grouping : Type 0 where
  pub names : List ℕ
  pub numbers : List ℕ
  pub count : ℕ
  pub dead : List Bool

-- the label of each name: the index of the first name of its group
unfoldable pub first_labels : (ℕ → ℕ → Bool) → List ℕ → List ℕ
first_labels leads names = map (λ n. position_or_len (λ m. leads m n) names) names

-- the groups of entries, numbered in order of their first names
unfoldable pub grouping_of : List Entry → Grouping
grouping_of entries = record {
  names = names_of entries;
  numbers = group_numbers (first_labels (same_group entries) (names_of entries));
  count = group_count (first_labels (same_group entries) (names_of entries));
  dead = map (dead entries) (names_of entries);
}

-- the number of n's group, if n is named
unfoldable pub number_in : Grouping → ℕ → Option ℕ
number_in groups n = option_map (λ k. slice_index groups.numbers k) (position (nat_eq n) groups.names)

-- whether both numbers are there, and are one
unfoldable pub same_number : Option ℕ → Option ℕ → Bool
same_number (Some a) (Some b) = a == b
same_number (Some a) None = false
same_number None other = false

-- what stands at the index, or false if there is none
unfoldable pub dead_at : List Bool → Option ℕ → Bool
dead_at dead (Some k) = slice_index_or dead k false
dead_at dead None = false

-- whether n is named, and its group is dead
unfoldable pub dead_in : Grouping → ℕ → Bool
dead_in groups n = dead_at groups.dead (position (nat_eq n) groups.names)
