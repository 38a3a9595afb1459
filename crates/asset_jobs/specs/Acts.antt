-- What the acts of a job ask.
use Rattle.std.specs.Prelude.{◌≡◌, ◌⊎◌, ℤ, pos, Bool, true, false, List, [], ◌∷◌, Result, Ok}
use Rattle.asset_names.specs.declared.names.Txn.{Txn}
use Rattle.asset_names.specs.declared.steps.Step.{Step}
use Rattle.asset_names.specs.declared.steps.Step.TheVariants as Step'
use Rattle.asset_names.specs.declared.replies.Reply.TheVariants.{Done, Value}
use Rattle.asset_names.specs.declared.replies.Outcome.{Outcome}
use Rattle.asset_names.specs.declared.replies.Outcome.TheVariants.{Answer}
use Rattle.asset_names.specs.declared.replies.Fault.{Fault}
use Rattle.asset_audit.specs.Audited.{Call}
use Rattle.asset_manager.specs.Listed.{IsListed}
use Rattle.asset_bodies.specs.Asked.{AreCallsAfter}
use Rattle.asset_bodies.specs.Working.{Working, Worked}
use Rattle.asset_grammar.specs.declared.job_lines.JobAct.{JobAct}
use Rattle.asset_grammar.specs.declared.job_lines.JobAct.TheVariants.{Read, Write, Add, GiveUp}

-- a job goes on after an act that is answered `Done` or with a value
unfoldable pub goes_on : Result Outcome Fault → Bool
goes_on (Ok (Answer Done)) = true
goes_on (Ok (Answer (Value v))) = true
goes_on met = false

-- the value that an act writes or the amount that it adds, and 0 for any other act
unfoldable pub act_value : JobAct → ℤ
act_value (Write x v) = v
act_value (Add x d) = d
act_value act = pos 0

-- a step was asked; the job goes on so after it, or ends there
unfoldable pub AsksThen : Step → List Call → (List Call → Type 0) → Bool → List Call → Type 0
AsksThen step before rest all later = (met : Result Outcome Fault) × (between : List Call) × IsListed before step met between
    × (((goes_on met ≡ true) × rest between) ⊎ ((goes_on met ≡ false) × (all ≡ false) × (later ≡ between)))

-- the acts were done in order, up to the first that gives up or after which the job does not go on; `all` says that there is
-- no such act
unfoldable pub DoesActs : Txn → List JobAct → List Call → Bool → List Call → Type 0
DoesActs t [] before all later = (all ≡ true) × (later ≡ before)
DoesActs t (Read x ∷ acts) before all later = AsksThen (Step'.Read t x) before (λ between. DoesActs t acts between all later) all later
DoesActs t (Write x v ∷ acts) before all later = AsksThen (Step'.Write t x v) before (λ between. DoesActs t acts between all later) all later
DoesActs t (Add x d ∷ acts) before all later = AsksThen (Step'.Add t x d) before (λ between. DoesActs t acts between all later) all later
DoesActs t (GiveUp ∷ acts) before all later = (all ≡ false) × (later ≡ before)

-- the last step of a job: to complete if all acts were done, and else to abort
unfoldable pub last_step : Txn → Bool → Step
last_step t true = Step'.Complete t
last_step t false = Step'.Abort t

-- a job did its acts, and then asked its last step
pub record DidActs (tx : Working) (acts : List JobAct) (ended : Worked) : Type 0 where
  pub between : List Call
  pub did : DoesActs tx.name acts tx.list.calls ended.done between
  pub last : AreCallsAfter between (last_step tx.name ended.done) ended.met ended.list.calls
