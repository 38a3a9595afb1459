-- The live transactions, found entry by entry.
use Rattle.std.specs.Prelude.{ℕ, Bool, true, cond, List, [], Option, Some, None, filter, reverse}
use Rattle.asset_names.specs.declared.names.Txn.{Txn}
use Rattle.asset_names.specs.declared.steps.Step.{Step}
use Rattle.asset_names.specs.declared.steps.Step.TheVariants.{Initiate}
use Rattle.asset_names.specs.Arrows.{with_name}
use Rattle.asset_names.specs.Steps.{Entry, takes_effect, initiated}
use Rattle.asset_names.specs.Endings.{live}

-- the transaction that a step initiates, if it takes effect
unfoldable pub initiated_if : Bool → Step → Option Txn
initiated_if true (Initiate t parent) = Some t
initiated_if effect step = None

-- the transaction that an entry initiated, if it did
unfoldable pub initiated_in : Entry → Option Txn
initiated_in entry = initiated_if (takes_effect entry.0 entry.1) entry.0

-- the names with the transaction that was initiated, if there is one and it is live
unfoldable pub with_live : List Step → List ℕ → Option Txn → List ℕ
with_live steps names None = names
with_live steps names (Some t) = cond (live steps t.0) (with_name names t.0) names

-- those of the transactions that the first steps initiated who are live after all steps, in order of initiation
unfoldable pub live_among : List Step → List Step → List ℕ
live_among steps first = filter (live steps) (reverse (initiated first))
