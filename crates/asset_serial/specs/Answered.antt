-- Those whose commits were answered, and the entries of each.
use Rattle.std.specs.Prelude.{ℕ, nat_eq, List, [], ◌∷◌, length, map, reverse, Option, Some, None}
use Rattle.std.specs.List.{position_or_len}
use Rattle.asset_names.specs.declared.names.Txn.{Txn}
use Rattle.asset_names.specs.Steps.{Entry}
use Rattle.asset_names.specs.Groups.{actor}
use Rattle.asset_entries.specs.Committing.{committer}
use Rattle.asset_names.specs.Arrows.{with_name}
use Rattle.asset_buckets.specs.Bucketed.{buckets_of}

-- the names with one more, if there is one and it is not listed
unfoldable pub with_answered : List ℕ → Option Txn → List ℕ
with_answered names (Some t) = with_name names t.0
with_answered names None = names

-- the transactions of which a commit was answered with `Committed`, in the order of their first such commits
unfoldable pub answered_names : List Entry → List ℕ
answered_names [] = []
answered_names (entry ∷ older) = with_answered (answered_names older) (committer entry.0 entry.1)

-- the index of the entry's transaction among the names, and the number of names if it is not listed
unfoldable pub number_of : List ℕ → Entry → ℕ
number_of names entry = position_or_len (nat_eq (actor entry.0).0) names

-- the numbers of the entries, oldest first
unfoldable pub numbers_of : List ℕ → List Entry → List ℕ
numbers_of names entries = map (number_of names) (reverse entries)

-- for each name in order the indices of its entries, oldest first
unfoldable pub blocks_of : List ℕ → List Entry → List (List ℕ)
blocks_of names entries = buckets_of (numbers_of names entries) (length names)
