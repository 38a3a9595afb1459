-- Names in groups on the way from the groups of some entries to those of more.
use Rattle.std.specs.Prelude.{◌≡◌, ℕ, ◌<◌, ◌≤◌, Bool, true, nat_eq, List, length, slice_index}
use Rattle.asset_names.specs.Steps.{Entry}
use Rattle.asset_names.specs.Groups.{same_group}
use Rattle.asset_entries.specs.Committing.{has_commit}
use Rattle.asset_name_groups.specs.NamesInGroups.{NamesInGroups, flag_at}

-- the name of a node, and the label of its group
abbrev pub name_at : NamesInGroups → ℕ → ℕ
name_at groups k = slice_index groups.names k

abbrev pub label_at : NamesInGroups → ℕ → ℕ
label_at groups k = slice_index groups.labels k

-- the name is there, and is of the node's group
abbrev pub IsWith : NamesInGroups → ℕ → ℕ → Type 0
IsWith groups u node = (k : ℕ) × (k < length groups.names) × (name_at groups k ≡ u) × (label_at groups k ≡ label_at groups node)

-- names that have one label are of one group of the entries
abbrev pub AreOfEntries : List Entry → NamesInGroups → Type 0
AreOfEntries entries groups = (i j : ℕ) → i < length groups.names → j < length groups.names → label_at groups i ≡ label_at groups j → same_group entries (name_at groups i) (name_at groups j) ≡ true

-- whether a commit of t was answered with `Committed`
abbrev pub commits : List Entry → ℕ → Bool
commits entries t = has_commit (nat_eq t) entries

-- a group is flagged exactly if a commit of one of its names was answered with `Committed`
pub record AreFlagged (entries : List Entry) (groups : NamesInGroups) : Type 0 where
  pub by : (k : ℕ) → k < length groups.names → flag_at groups.flags k ≡ true → (m : ℕ) × (m < length groups.names) × (label_at groups m ≡ label_at groups k) × (commits entries (name_at groups m) ≡ true)
  pub flagged : (k m : ℕ) → k < length groups.names → m < length groups.names → label_at groups m ≡ label_at groups k → commits entries (name_at groups m) ≡ true → flag_at groups.flags k ≡ true

-- some groups are joined whose names are of one group of the entries
pub record AreJoined (entries : List Entry) (before after : NamesInGroups) : Type 0 where
  pub names : after.names ≡ before.names
  pub room : after.room ≡ before.room
  pub stay : (i j : ℕ) → i < length before.names → j < length before.names → label_at before i ≡ label_at before j → label_at after i ≡ label_at after j
  pub of_entries : AreOfEntries entries before → AreOfEntries entries after
  pub flagged : (seen : List Entry) → AreFlagged seen before → AreFlagged seen after

-- the names stay, and maybe more come; two who were in one group are in one group
pub record HaveGrown (before after : NamesInGroups) : Type 0 where
  pub more : length before.names ≤ length after.names
  pub names : (k : ℕ) → k < length before.names → name_at after k ≡ name_at before k
  pub stay : (i j : ℕ) → i < length before.names → j < length before.names → label_at before i ≡ label_at before j → label_at after i ≡ label_at after j
