-- The entries whose steps each transaction asked for.
use Rattle.std.specs.Prelude.{ℕ, nat_eq, List, [], ◌∷◌, length, map, position, reverse, slice_index_or, unwrap_or}
use Rattle.asset_names.specs.Steps.{Entry}
use Rattle.asset_names.specs.Groups.{actor}
use Rattle.asset_buckets.specs.Bucketed.{buckets_of}
use Rattle.asset_names.specs.Arrows.{with_name}

-- names with more of them, each once
unfoldable pub with_names : List ℕ → List ℕ → List ℕ
with_names names [] = names
with_names names (n ∷ more) = with_names (with_name names n) more

-- the index of n among the names, and how many there are if it is none of them
unfoldable pub index_in : List ℕ → ℕ → ℕ
index_in names n = unwrap_or (position (nat_eq n) names) (length names)

-- the index of the transaction that asked for an entry, the first of two
unfoldable pub asker_of : List ℕ → Entry → ℕ
asker_of names entry = index_in names (actor entry.0).0

-- those of all entries, oldest first
unfoldable pub askers : List ℕ → List Entry → List ℕ
askers names entries = map (asker_of names) (reverse entries)

-- for each name, the numbers of the entries that it asked for
unfoldable pub uses : List ℕ → List Entry → List (List ℕ)
uses names entries = buckets_of (askers names entries) (length names)

-- those of n
unfoldable pub uses_of : List ℕ → List (List ℕ) → ℕ → List ℕ
uses_of names used n = slice_index_or used (index_in names n) []
