-- Who waits for whom, by the steps that took effect and the pending requests.
use Rattle.std.specs.Prelude.{ℕ, Bool, List, [], ◌∷◌, ◌++◌, filter, reverse, Option, Some, None}
use Rattle.std.specs.Ordering.{nat_cmp}
use Rattle.std.specs.BTreeSet.{insert_key}
use Rattle.asset_names.specs.declared.names.Ob.{Ob}
use Rattle.asset_names.specs.declared.operations.Op.{Op}
use Rattle.asset_names.specs.declared.statuses.Status.{Status}
use Rattle.asset_names.specs.declared.statuses.Status.TheVariants.{Running, Completed}
use Rattle.asset_names.specs.declared.steps.Step.{Step}
use Rattle.asset_names.specs.Endings.{live, status}
use Rattle.asset_names.specs.Steps.{initiated}
use Rattle.asset_ends.specs.Waits.{is_blocker, is_unfinished, is_outside_source}
use Rattle.asset_core.specs.Pending.{Pending, pending_of}

-- the live transactions, in order of initiation
unfoldable pub live_names : List Step → List ℕ
live_names steps = filter (live steps) (reverse (initiated steps))

-- the names, rising
unfoldable pub rising : List ℕ → List ℕ
rising [] = []
rising (n ∷ names) = insert_key nat_cmp (rising names) n

-- the live transactions that pass a test, rising
unfoldable pub live_who : List Step → (ℕ → Bool) → List ℕ
live_who steps test = rising (filter test (live_names steps))

-- who blocks the request of t, if it has one
unfoldable pub blockers_of : List Step → ℕ → Option (Ob × Op) → List ℕ
blockers_of steps t None = []
blockers_of steps t (Some request) = live_who steps (is_blocker steps t request.0.0 request.1)

-- who keeps t from a commit as a member of its class that has not completed
unfoldable pub unfinished_of : List Step → ℕ → List ℕ
unfinished_of steps t = live_who steps (is_unfinished steps t)

-- who keeps t from a commit as a live source outside its class
unfoldable pub outside_sources_of : List Step → ℕ → List ℕ
outside_sources_of steps t = live_who steps (is_outside_source steps t)

-- whom one of this status waits for: one that runs waits for those who block its pending request, and one that has completed
-- waits for those who keep it from a commit
unfoldable pub waits_as : Status → List Step → List Pending → ℕ → List ℕ
waits_as Running steps pending t = blockers_of steps t (pending_of t pending)
waits_as Completed steps pending t = unfinished_of steps t ++ outside_sources_of steps t
waits_as other steps pending t = []

-- whom t waits for
unfoldable pub waits_for : List Step → List Pending → ℕ → List ℕ
waits_for steps pending t = waits_as (status steps t) steps pending t
