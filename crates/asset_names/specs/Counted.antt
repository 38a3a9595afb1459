-- How many entries a history has, and how many transactions have ended in it in each way.
use Rattle.std.specs.Prelude.{ℕ, ◌≤◌, Bool, true, false, List, length}
use Rattle.std.specs.List.{count_by}
use Rattle.asset_names.specs.declared.steps.Step.{Step}
use Rattle.asset_names.specs.declared.statuses.Status.{Status}
use Rattle.asset_names.specs.declared.statuses.Status.TheVariants as Status'
use Rattle.asset_names.specs.declared.statuses.End.{End}
use Rattle.asset_names.specs.declared.statuses.End.TheVariants as End'
use Rattle.asset_names.specs.Steps.{Entry, applied, initiated}
use Rattle.asset_names.specs.Endings.{status}
use Rattle.asset_names.specs.declared.counts.Counts.{Counts}

-- whether a transaction of this status has ended in this way
unfoldable pub has_end : End → Status → Bool
has_end End'.Committed Status'.Committed = true
has_end End'.Aborted Status'.Aborted = true
has_end how status = false

-- how many transactions have ended in this way
unfoldable pub ended_count : End → List Step → ℕ
ended_count how steps = count_by (λ n. has_end how (status steps n)) (initiated steps)

-- the number of entries, and of the transactions that have committed and that have aborted
unfoldable pub counts_of : List Entry → Counts
counts_of entries = record { entries = length entries; committed = ended_count End'.Committed (applied entries); aborted = ended_count End'.Aborted (applied entries) }

-- no count of the first is above that of the second
pub record IsBelow (first second : Counts) : Type 0 where
  pub entries : first.entries ≤ second.entries
  pub committed : first.committed ≤ second.committed
  pub aborted : first.aborted ≤ second.aborted
