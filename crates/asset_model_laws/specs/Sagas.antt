-- What a saga leaves.
use Rattle.std.specs.Prelude.{◌≡◌, List, [], ◌∷◌, ◌++◌, map, reverse, Option, Some, None}
use Rattle.asset_names.specs.declared.names.Txn.{Txn}
use Rattle.asset_names.specs.declared.statuses.End.TheVariants.{Committed, Aborted}
use Rattle.asset_names.specs.Steps.{Entry, applied}
use Rattle.asset_names.specs.Endings.{end_of}
use Rattle.asset_entries.specs.Committing.{committer}
use Rattle.asset_models.specs.declared.parts.Part.{Part}
use Rattle.asset_model_laws.specs.Ended.{AllEnded}

-- a transaction, if there is one
unfoldable pub one_commit : Option Txn → List Txn
one_commit None = []
one_commit (Some t) = t ∷ []

-- the transactions whose commits were answered with `Committed`, the latest first
unfoldable pub commits_in : List Entry → List Txn
commits_in [] = []
commits_in (entry ∷ older) = one_commit (committer entry.0 entry.1) ++ commits_in older

-- the first and the second part of a pair, and their transactions
abbrev pub Pair : Type 0
Pair = Part × Part

unfoldable pub first_part : Pair → Part
first_part pair = pair.0

unfoldable pub second_part : Pair → Part
second_part pair = pair.1

unfoldable pub first_name : Pair → Txn
first_name pair = pair.0.name

unfoldable pub second_name : Pair → Txn
second_name pair = pair.1.name

-- A saga was undone: the first parts of some pairs committed, and that of the next pair aborted. Then the second parts of these
-- pairs committed in reverse order, and nobody else committed in the saga.
pub record IsUndone (pairs : List Pair) (calls entries : List Entry) : Type 0 where
  -- the pairs whose first parts committed, the latest first, the pair whose first part aborted, and the others
  pub gone : List Pair
  pub failed : Pair
  pub left : List Pair
  pub split : pairs ≡ reverse gone ++ failed ∷ left
  pub firsts : AllEnded Committed entries (map first_part gone)
  pub fell : end_of (applied entries) failed.0.name.0 ≡ Some Aborted
  pub seconds : AllEnded Committed entries (map second_part gone)
  pub order : commits_in calls ≡ reverse (map second_name gone) ++ map first_name gone
