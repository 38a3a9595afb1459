-- The room that live transactions are owed, so that each can still end.
use Rattle.std.specs.Prelude.{ℕ, ◌+◌, Bool, true, false, ◌&&◌, nat_le, List, sum_by}
use Rattle.asset_names.specs.declared.steps.Step.{Step}
use Rattle.asset_names.specs.declared.statuses.Status.{Status}
use Rattle.asset_names.specs.declared.statuses.Status.TheVariants as Status'
use Rattle.asset_names.specs.declared.steps.Step.TheVariants.{Initiate, Complete, Commit, Abort}
use Rattle.asset_names.specs.declared.replies.Reply.{Reply}
use Rattle.asset_names.specs.Steps.{takes_effect, initiated}
use Rattle.asset_names.specs.Endings.{live, status}

-- A live transaction that has not completed is owed two entries, for its complete and its end; a completed one
-- is owed one, for its end.
unfoldable pub owed_to : Status → ℕ
owed_to Status'.Initiated = 2
owed_to Status'.Running = 2
owed_to Status'.Completed = 1
owed_to other = 0

-- the entries that all transactions are owed
unfoldable pub owed : List Step → ℕ
owed steps = sum_by (λ n. owed_to (status steps n)) (initiated steps)

-- the entries, of which these steps took effect, and those that are owed after them are within the capacity
unfoldable pub fits : List Step → ℕ → ℕ → Bool
fits steps entries capacity = nat_le (entries + owed steps) capacity

-- whether an answered step is a complete, a commit or an abort that changes a status
unfoldable pub changes_status : List Step → Step → Reply → Bool
changes_status steps (Complete t) reply = takes_effect (Complete t) reply
changes_status steps (Commit t) reply = takes_effect (Commit t) reply && live steps t.0
changes_status steps (Abort t) reply = takes_effect (Abort t) reply && live steps t.0
changes_status steps step reply = false

-- whether a step initiates a transaction
unfoldable pub initiates : Step → Bool
initiates (Initiate t parent) = true
initiates step = false
