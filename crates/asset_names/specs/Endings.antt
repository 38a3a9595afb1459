-- Dependencies, classes, how transactions end, and their status.
use Rattle.std.specs.Prelude.{ℕ, Bool, true, false, cond, ◌&&◌, List, [], ◌∷◌, ◌++◌, flat_map, Option, Some, None, is_none}
use Rattle.std.specs.Option.{option_or}
use Rattle.asset_names.specs.declared.steps.Step.{Step}
use Rattle.asset_names.specs.declared.steps.Kind.{Kind}
use Rattle.asset_names.specs.declared.steps.Kind.TheVariants.{Cd, Ad, Gc}
use Rattle.asset_names.specs.declared.steps.Step.TheVariants.{Depend, Commit, Abort}
use Rattle.asset_names.specs.declared.statuses.End.{End}
use Rattle.asset_names.specs.declared.statuses.End.TheVariants as End'
use Rattle.asset_names.specs.declared.statuses.Status.{Status}
use Rattle.asset_names.specs.declared.statuses.Status.TheVariants as Status'
use Rattle.asset_names.specs.Arrows.{Arrow, lists, linked, among}
use Rattle.asset_names.specs.Paths.{same_kind, both_ways, closes_cycle, has_outside}
use Rattle.asset_names.specs.Steps.{initiated, begun, completed}

-- the arrow of a dependency of this kind that the step makes, from the source to the dependent
unfoldable pub dependency_by : Kind → Step → List Arrow
dependency_by kind (Depend k a b) = cond (same_kind kind k) ((a.0, b.0) ∷ []) []
dependency_by kind step = []

-- the arrows of the dependencies of this kind
unfoldable pub dependencies : Kind → List Step → List Arrow
dependencies kind steps = flat_map (dependency_by kind) steps

-- the arrows that make classes: those of group commits, both ways
unfoldable pub class_arrows : List Step → List Arrow
class_arrows steps = both_ways (dependencies Gc steps)

-- The arrows of order: those of commit and of abort dependencies. A dependent commits only after its source has ended; it may
-- abort at any time.
unfoldable pub order_arrows : List Step → List Arrow
order_arrows steps = dependencies Cd steps ++ dependencies Ad steps

-- the arrows along which an abort spreads: over a class, and from a source to those with an abort dependency on it
unfoldable pub doom_arrows : List Step → List Arrow
doom_arrows steps = class_arrows steps ++ dependencies Ad steps

-- How a step ends t. A commit ends the whole class of a live transaction, and an abort all that it spreads to;
-- `live` says who was live before it.
unfoldable pub ended_by : Step → (ℕ → Bool) → List Step → ℕ → Option End
ended_by (Commit u) live older t = cond (live u.0 && linked (among live (class_arrows older)) u.0 t) (Some End'.Committed) None
ended_by (Abort u) live older t = cond (live u.0 && linked (among live (doom_arrows older)) u.0 t) (Some End'.Aborted) None
ended_by step live older t = None

-- how t ended, if it did: the first end counts
unfoldable pub end_of : List Step → ℕ → Option End
end_of [] t = None
end_of (step ∷ older) t = option_or (end_of older t) (ended_by step (λ n. lists (initiated older) n && is_none (end_of older n)) older t)

-- t was initiated and has not ended
unfoldable pub live : List Step → ℕ → Bool
live steps t = lists (initiated steps) t && is_none (end_of steps t)

-- the status of a transaction by whether it was initiated, begun and completed, and how it ended
unfoldable pub status_of : Bool → Bool → Bool → Option End → Status
status_of false begun completed end = Status'.Unknown
status_of true begun completed (Some End'.Committed) = Status'.Committed
status_of true begun completed (Some End'.Aborted) = Status'.Aborted
status_of true begun true None = Status'.Completed
status_of true true false None = Status'.Running
status_of true false false None = Status'.Initiated

-- the status of t after the steps
unfoldable pub status : List Step → ℕ → Status
status steps t = status_of (lists (initiated steps) t) (lists (begun steps) t) (lists (completed steps) t) (end_of steps t)

-- whether a transaction of this status is live
unfoldable pub is_live_status : Status → Bool
is_live_status Status'.Initiated = true
is_live_status Status'.Running = true
is_live_status Status'.Completed = true
is_live_status status = false

-- two live transactions are of one class if group commits between live ones join them; each is of its own
unfoldable pub same_class : List Step → ℕ → ℕ → Bool
same_class steps a b = linked (among (live steps) (class_arrows steps)) a b

-- whether a live transaction outside the class of t is the source of a commit or an abort dependency of a member
unfoldable pub has_outside_source : List Step → ℕ → Bool
has_outside_source steps t = has_outside (among (live steps) (class_arrows steps)) (among (live steps) (order_arrows steps)) t

-- whether a dependency of this kind of b on a would close a cycle among the classes of live transactions
unfoldable pub would_cycle : List Step → Kind → ℕ → ℕ → Bool
would_cycle steps kind a b = closes_cycle kind (among (live steps) (class_arrows steps)) (among (live steps) (order_arrows steps)) a b
