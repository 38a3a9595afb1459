-- What an initiation asked.
use Rattle.std.specs.Prelude.{◌≡◌, ◌≤◌, ℕ, List, [], ◌∷◌, ◌++◌, Option, Some, None, Result, Ok, Err}
use Rattle.std.specs.Arc.{arc_value}
use Rattle.std.specs.declared.dyn_box.DynBox.{DynBox}
use Rattle.std.specs.declared.alloc.Global.{Global}
use Rattle.atomic_table.specs.Seated.{TableId}
use Rattle.asset_names.specs.declared.names.Txn.{Txn}
use Rattle.asset_names.specs.declared.steps.Step.{Step}
use Rattle.asset_names.specs.declared.replies.Reply.TheVariants.{Done, Refused}
use Rattle.asset_names.specs.declared.replies.Outcome.{Outcome}
use Rattle.asset_names.specs.declared.replies.Outcome.TheVariants.{Answer}
use Rattle.asset_names.specs.declared.replies.Fault.{Fault}
use Rattle.asset_names.specs.declared.replies.Fault.TheVariants.{Full, NoMemory}
use Rattle.asset_audit.specs.Audited.{Call}
use Rattle.asset_runner.specs.declared.job.Planned.{Planned}
use Rattle.asset_runner.specs.declared.plan.Cause.{Cause}
use Rattle.asset_runner.specs.declared.plan.Cause.TheVariants as Cause'

-- one more stands at the end, of which this is so
abbrev pub OneMore : {J : Type 0} → (J → Type 0) → List J → List J → Type 0
OneMore {J} is before later = (job : J) × (later ≡ before ++ job ∷ []) × is job

-- the job has this name, these turns and this body, and asks this manager by a session of its own that has asked nothing and has
-- room for so many calls
abbrev pub IsPlanned : {X : Type 0} {B : X → Type 0} {callable : _} → Txn → Option ℕ → DynBox X Global B → TableId → ℕ → Planned X B callable → Type 0
IsPlanned t turns body manager calls job =
    (job.name ≡ t) × (job.turns ≡ turns) × (job.body ≡ body) × (arc_value job.manager ≡ manager) × (job.session.list.calls ≡ []) × (calls ≤ job.session.list.room)

-- an initiation that was answered `Done` is one call more
abbrev pub IsInitiated : List Call → Step → List Call → Type 0
IsInitiated before step later = (n : ℕ) × (later ≡ before ++ (n, step, Done) ∷ [])

-- one that was not: a refusal is one call more, and the other causes are none
abbrev pub IsRefused : List Call → Step → Cause → List Call → Type 0
IsRefused before step (Cause'.Refused refusal) later = (n : ℕ) × (later ≡ before ++ (n, step, Refused refusal) ∷ [])
IsRefused before step Cause'.Full later = later ≡ before
IsRefused before step Cause'.NoMemory later = later ≡ before

-- of an initiation: it is answered `Done`, is refused or meets a fault, and does not wait
abbrev pub IsInitiation : Result Outcome Fault → Type 0
IsInitiation (Ok (Answer Done)) = Unit {0}
IsInitiation (Ok (Answer (Refused refusal))) = Unit {0}
IsInitiation (Err fault) = Unit {0}
IsInitiation outcome = ⊥

-- why an initiation was not answered `Done`, and nothing if it was
abbrev pub cause_by : Result Outcome Fault → Option Cause
cause_by (Ok (Answer (Refused refusal))) = Some (Cause'.Refused refusal)
cause_by (Err NoMemory) = Some Cause'.NoMemory
cause_by (Err Full) = Some Cause'.Full
cause_by outcome = None
