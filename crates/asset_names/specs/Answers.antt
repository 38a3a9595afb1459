-- The refusals of a step, its one answer, and legal histories.
use Rattle.std.specs.Prelude.{◌≡◌, ℕ, ◌==◌, Bool, true, false, cond, not, ◌&&◌, ◌||◌, List, [], ◌∷◌, Option, Some, None, find}
use Rattle.std.specs.List.{list_all}
use Rattle.asset_names.specs.declared.names.Txn.{Txn}
use Rattle.asset_names.specs.declared.names.Ob.{Ob}
use Rattle.asset_names.specs.declared.operations.Op.TheVariants as Op'
use Rattle.asset_names.specs.declared.steps.Kind.{Kind}
use Rattle.asset_names.specs.declared.steps.Step.{Step}
use Rattle.asset_names.specs.declared.steps.Step.TheVariants.{Initiate, Begin, Read, Write, Add, Complete, Permit, PermitAny, Delegate, Depend, Commit, Abort, WaitFor}
use Rattle.asset_names.specs.declared.sets.ObSet.{ObSet}
use Rattle.asset_names.specs.declared.sets.ObSet.TheVariants.{All, Listed}
use Rattle.asset_names.specs.Sets.{no_object_name}
use Rattle.asset_names.specs.declared.statuses.Status.{Status}
use Rattle.asset_names.specs.declared.statuses.Status.TheVariants as Status'
use Rattle.asset_names.specs.declared.replies.Refusal.{Refusal}
use Rattle.asset_names.specs.declared.replies.Refusal.TheVariants as Refusal'
use Rattle.asset_names.specs.declared.replies.Reply.TheVariants as Reply'
use Rattle.asset_names.specs.declared.replies.Outcome.{Outcome}
use Rattle.asset_names.specs.declared.replies.Outcome.TheVariants.{Answer, Wait}
use Rattle.asset_names.specs.Steps.{Opening, Entry, takes_effect, applied, initiated}
use Rattle.asset_names.specs.Endings.{status, same_class, has_outside_source, would_cycle}
use Rattle.asset_names.specs.Operations.{free, value, exists}

-- the transaction was never initiated
unfoldable pub is_unknown : Status → Bool
is_unknown Status'.Unknown = true
is_unknown other = false

-- the transaction has committed or aborted
unfoldable pub has_ended : Status → Bool
has_ended Status'.Committed = true
has_ended Status'.Aborted = true
has_ended other = false

-- the transaction has begun and not completed
unfoldable pub is_running : Status → Bool
is_running Status'.Running = true
is_running other = false

-- the transaction has completed and not ended
unfoldable pub is_completed : Status → Bool
is_completed Status'.Completed = true
is_completed other = false

-- the transaction has committed
unfoldable pub is_committed : Status → Bool
is_committed Status'.Committed = true
is_committed other = false

-- the transaction is live and has begun
unfoldable pub has_begun : Status → Bool
has_begun Status'.Running = true
has_begun Status'.Completed = true
has_begun other = false

-- a refusal, and whether it applies
abbrev pub Rule : Type 0
Rule = Bool × Refusal

-- each step but an initiate is refused if t was never initiated
unfoldable pub unknown : List Step → Txn → Rule
unknown steps t = (is_unknown (status steps t.0), Refusal'.Unknown t)

-- a begin, a transaction's own work, and a permit, a delegation or a dependency that names it are refused if it has ended
unfoldable pub ended : List Step → Txn → Rule
ended steps t = (has_ended (status steps t.0), Refusal'.Ended t)

-- a transaction's own work is refused if it is not running
unfoldable pub not_running : List Step → Txn → Rule
not_running steps t = (not (is_running (status steps t.0)), Refusal'.NotRunning t)

-- an initiate is refused if t was initiated before
unfoldable pub taken : List Step → Txn → Rule
taken steps t = (not (is_unknown (status steps t.0)), Refusal'.Taken t)

-- a begin is refused if t is live and has begun
unfoldable pub begun_before : List Step → Txn → Rule
begun_before steps t = (has_begun (status steps t.0), Refusal'.Begun t)

-- a committed transaction is not aborted
unfoldable pub too_late : List Step → Txn → Rule
too_late steps t = (is_committed (status steps t.0), Refusal'.TooLate t)

-- an operation is refused on an object that does not exist
unfoldable pub no_object : Opening → Ob → Rule
no_object opening x = (not (exists opening x.0), Refusal'.NoObject x)

-- a permit, a delegation or a dependency between a transaction and itself is refused
unfoldable pub one_name : Txn → Txn → Rule
one_name giver taker = (giver.0 == taker.0, Refusal'.Same)

-- a dependency is refused if it would close a cycle
unfoldable pub cycle : List Step → Kind → Txn → Txn → Rule
cycle steps kind a b = (would_cycle steps kind a.0 b.0, Refusal'.Cycle)

-- the first object of a list that does not exist; None if each of them exists, and for the set of all objects
unfoldable pub missing_in : Opening → ObSet → Option Ob
missing_in opening All = None
missing_in opening (Listed list) = find (λ (x : Ob). not (exists opening x.0)) list

-- the refusal for a missing object, which applies if there is one
unfoldable pub missing_rule : Option Ob → Rule
missing_rule None = (false, Refusal'.NoObject no_object_name)
missing_rule (Some x) = (true, Refusal'.NoObject x)

-- a permit or a delegation is refused on a list with an object that does not exist
unfoldable pub no_object_of : Opening → ObSet → Rule
no_object_of opening obs = missing_rule (missing_in opening obs)

-- the refusals of a step, in the order in which they are looked at
unfoldable pub rules_for : Opening → List Step → Step → List Rule
rules_for opening steps (Initiate t parent) = taken steps t ∷ []
rules_for opening steps (Begin t) = unknown steps t ∷ ended steps t ∷ begun_before steps t ∷ []
rules_for opening steps (Read t x) = unknown steps t ∷ ended steps t ∷ not_running steps t ∷ no_object opening x ∷ []
rules_for opening steps (Write t x v) = unknown steps t ∷ ended steps t ∷ not_running steps t ∷ no_object opening x ∷ []
rules_for opening steps (Add t x d) = unknown steps t ∷ ended steps t ∷ not_running steps t ∷ no_object opening x ∷ []
rules_for opening steps (Complete t) = unknown steps t ∷ ended steps t ∷ not_running steps t ∷ []
rules_for opening steps (Permit giver taker obs ops) = one_name giver taker ∷ unknown steps giver ∷ unknown steps taker ∷ ended steps giver ∷ ended steps taker ∷ no_object_of opening obs ∷ []
rules_for opening steps (PermitAny giver obs ops) = unknown steps giver ∷ ended steps giver ∷ no_object_of opening (Listed obs) ∷ []
rules_for opening steps (Delegate giver taker obs) = one_name giver taker ∷ unknown steps giver ∷ unknown steps taker ∷ ended steps giver ∷ ended steps taker ∷ no_object_of opening obs ∷ []
rules_for opening steps (Depend kind a b) = one_name a b ∷ unknown steps a ∷ unknown steps b ∷ ended steps a ∷ ended steps b ∷ cycle steps kind a b ∷ []
rules_for opening steps (Commit t) = unknown steps t ∷ []
rules_for opening steps (Abort t) = unknown steps t ∷ too_late steps t ∷ []
rules_for opening steps (WaitFor t) = unknown steps t ∷ []

-- the first refusal that applies
unfoldable pub first_refusal : List Rule → Option Refusal
first_refusal [] = None
first_refusal (rule ∷ rules) = cond rule.0 (Some rule.1) (first_refusal rules)

-- whether each member of t's class has completed
unfoldable pub class_completed : List Step → ℕ → Bool
class_completed steps t = list_all (λ n. not (same_class steps t n) || is_completed (status steps n)) (initiated steps)

-- whether t's class may commit: each member has completed, and no live transaction outside it is a source of a member
unfoldable pub may_commit : List Step → ℕ → Bool
may_commit steps t = class_completed steps t && not (has_outside_source steps t)

-- A commit of a transaction that has ended answers how it ended. Otherwise the whole class commits at once when it may,
-- and waits until then.
unfoldable pub commit_outcome : Status → Bool → Outcome
commit_outcome Status'.Committed ready = Answer Reply'.Committed
commit_outcome Status'.Aborted ready = Answer Reply'.Aborted
commit_outcome other ready = cond ready (Answer Reply'.Committed) Wait

-- a wait for a transaction ends when it has completed or ended, and says which
unfoldable pub wait_outcome : Status → Outcome
wait_outcome Status'.Completed = Answer Reply'.Done
wait_outcome Status'.Committed = Answer Reply'.Committed
wait_outcome Status'.Aborted = Answer Reply'.Aborted
wait_outcome other = Wait

-- the outcome of a step that is not refused
unfoldable pub unrefused : Opening → List Step → Step → Outcome
unrefused opening steps (Initiate t parent) = Answer Reply'.Done
unrefused opening steps (Begin t) = Answer Reply'.Done
unrefused opening steps (Read t x) = cond (free steps t.0 x.0 Op'.Read) (Answer (Reply'.Value (value opening steps x.0))) Wait
unrefused opening steps (Write t x v) = cond (free steps t.0 x.0 Op'.Write) (Answer Reply'.Done) Wait
unrefused opening steps (Add t x d) = cond (free steps t.0 x.0 Op'.Add) (Answer Reply'.Done) Wait
unrefused opening steps (Complete t) = Answer Reply'.Done
unrefused opening steps (Permit giver taker obs ops) = Answer Reply'.Done
unrefused opening steps (PermitAny giver obs ops) = Answer Reply'.Done
unrefused opening steps (Delegate giver taker obs) = Answer Reply'.Done
unrefused opening steps (Depend kind a b) = Answer Reply'.Done
unrefused opening steps (Commit t) = commit_outcome (status steps t.0) (may_commit steps t.0)
unrefused opening steps (Abort t) = Answer Reply'.Aborted
unrefused opening steps (WaitFor t) = wait_outcome (status steps t.0)

-- the outcome of a step: the refusal if there is one, or else this outcome
unfoldable pub outcome_unless : Option Refusal → Outcome → Outcome
outcome_unless None outcome = outcome
outcome_unless (Some refusal) outcome = Answer (Reply'.Refused refusal)

-- the one answer to a step after the steps that took effect
unfoldable pub answer : Opening → List Step → Step → Outcome
answer opening steps step = outcome_unless (first_refusal (rules_for opening steps step)) (unrefused opening steps step)

-- whether a step that takes effect may need memory
unfoldable pub takes_memory : Step → Bool
takes_memory (Initiate t parent) = true
takes_memory (Read t x) = true
takes_memory (Write t x v) = true
takes_memory (Add t x d) = true
takes_memory (Permit giver taker obs ops) = true
takes_memory (PermitAny giver obs ops) = true
takes_memory (Delegate giver taker obs) = true
takes_memory (Depend kind a b) = true
takes_memory step = false

-- whether the outcome is a reply by which the step takes effect
unfoldable pub outcome_takes_effect : Step → Outcome → Bool
outcome_takes_effect step (Answer reply) = takes_effect step reply
outcome_takes_effect step Wait = false

-- a history, newest entry first, is legal if the reply to each step is its answer after the older entries
unfoldable pub IsLegal : Opening → List Entry → Type 0
IsLegal opening [] = Unit {0}
IsLegal opening (entry ∷ older) = (answer opening (applied older) entry.0 ≡ Answer entry.1) × IsLegal opening older
