-- Entries of one history that follow another.
use Rattle.std.specs.Prelude.{ℕ, ◌+◌, ◌≤◌, List, [], ◌∷◌, ◌++◌, length, reverse, flat_map, slice_get, Option, Some, None}
use Rattle.asset_names.specs.Steps.{Entry}
use Rattle.asset_names.specs.Answers.{IsLegal}
use Rattle.asset_entries.specs.Recorded.{Recorded}

-- the entry alone, if there is one
unfoldable pub alone : Option Entry → List Entry
alone (Some entry) = entry ∷ []
alone None = []

-- the entry at an index, oldest first from 0, if there is one
unfoldable pub entry_listed_at : List Entry → ℕ → List Entry
entry_listed_at entries index = alone (slice_get (reverse entries) index)

-- the entries at the indices, in the order of these
unfoldable pub entries_at : List Entry → List ℕ → List Entry
entries_at entries indices = flat_map (entry_listed_at entries) indices

-- the entries at the indices of one block after another
unfoldable pub entries_in : List Entry → List (List ℕ) → List Entry
entries_in entries blocks = flat_map (entries_at entries) blocks

-- the history with more entries, the oldest of which comes first
unfoldable pub followed_by : Recorded → List Entry → Recorded
followed_by history more = record history { entries = reverse more ++ history.entries }

-- with more entries the history is still legal, and within its capacity
pub record CanFollow (history : Recorded) (more : List Entry) : Type 0 where
  pub legal : IsLegal history.opening (reverse more ++ history.entries)
  pub room : length more + length history.entries ≤ history.capacity
