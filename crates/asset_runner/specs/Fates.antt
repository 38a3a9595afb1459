-- What a worker did with a job.
use Rattle.std.specs.Prelude.{◌≡◌, ◌≢◌, ◌⊎◌, ℕ, Bool, true, false, List, [], ◌∷◌, ◌++◌, Option, Some, None, MatchOption}
use Rattle.std.specs.declared.dyn_box.DynBox.{DynBox}
use Rattle.std.specs.declared.alloc.Global.{Global}
use Rattle.atomic_table.specs.Seated.{TableId}
use Rattle.asset_names.specs.declared.names.Txn.{Txn}
use Rattle.asset_names.specs.declared.steps.Step.TheVariants.{Begin, Commit}
use Rattle.asset_names.specs.declared.replies.Reply.{Reply}
use Rattle.asset_names.specs.declared.replies.Reply.TheVariants.{Done}
use Rattle.asset_names.specs.declared.replies.Outcome.{Outcome}
use Rattle.asset_names.specs.declared.replies.Outcome.TheVariants.{Answer, Wait}
use Rattle.asset_audit.specs.Audited.{Call}
use Rattle.asset_bodies.specs.Working.{Working, Worked}
use Rattle.asset_runner.specs.Runs.{JobRun}
use Rattle.asset_runner.specs.declared.arrival.Fate.{Fate}
use Rattle.asset_runner.specs.declared.arrival.Fate.TheVariants.{Left, Called}

-- whose `Finished` the body answered, if it was called
abbrev pub answered_by : {X : Type 0} {B : X → Type 0} → Fate X B → Option Txn
answered_by (Left body) = None
answered_by (Called answered waits) = Some answered

-- the body, if it was not called
abbrev pub body_of : {X : Type 0} {B : X → Type 0} → Fate X B → Option (DynBox X Global B)
body_of (Left body) = Some body
body_of (Called answered waits) = None

-- whether a commit was asked and still waits
abbrev pub waits_by : {X : Type 0} {B : X → Type 0} → Fate X B → Bool
waits_by (Left body) = false
waits_by (Called answered waits) = waits

-- a commit of u that came to this: an answer is one call more, and otherwise there is none
abbrev pub AsksOnce : Txn → List Call → Option Outcome → List Call → Type 0
AsksOnce u before (Some (Answer reply)) later = (n : ℕ) × (later ≡ before ++ (n, Commit u, reply) ∷ [])
AsksOnce u before (Some Wait) later = later ≡ before
AsksOnce u before None later = later ≡ before

-- after these calls nothing was answered, or once a commit of u
abbrev pub AsksCommit : Txn → List Call → List Call → Type 0
AsksCommit u before later = (later ≡ before) ⊎ ((n : ℕ) × (reply : Reply) × (later ≡ before ++ (n, Commit u, reply) ∷ []))

-- after these calls nothing was answered, or once the begin of a transaction, and not by `Done`
abbrev pub AsksBegin : Txn → List Call → List Call → Type 0
AsksBegin t before later = (later ≡ before) ⊎ ((n : ℕ) × (reply : Reply) × (later ≡ before ++ (n, Begin t, reply) ∷ []) × (reply ≢ Done))

-- The body was called with a transaction of this name and manager, whose begin was answered `Done` after the calls before, and it
-- answered the `Finished` of u. The calls later are those of that `Finished`, and then the commit of u, if the body answered it as
-- done and the commit was answered.
pub record CallsBody (post : Working → Worked → Type 0) (name : Txn) (manager : TableId) (before later : List Call) (u : Txn) : Type 0 where
  pub tx : Working
  pub finished : Worked
  pub named : tx.name ≡ name
  pub of : tx.manager ≡ manager
  pub begun : (n : ℕ) × (tx.list.calls ≡ before ++ (n, Begin name, Done) ∷ [])
  pub answered : post tx finished
  pub whose : finished.name ≡ u
  pub kept : AsksCommit u finished.list.calls later
  pub given_up : finished.done ≡ false → later ≡ finished.list.calls

-- the same, while commits may be asked again: if one waits, the body answered that it is done, and no commit was answered yet
pub record CallsSoFar (post : Working → Worked → Type 0) (name : Txn) (manager : TableId) (before later : List Call) (waits : Bool) (u : Txn) : Type 0 where
  pub calls : CallsBody post name manager before later u
  pub waiting : waits ≡ true → (calls.finished.done ≡ true) × (later ≡ calls.finished.list.calls)

-- the run of a job with these calls before: its begin was not answered `Done`, and it was left; or its body was called
abbrev pub RunsBody : (Working → Worked → Type 0) → Txn → TableId → List Call → JobRun → Type 0
RunsBody post name manager before run = MatchOption run.answered (AsksBegin name before run.calls) (CallsBody post name manager before run.calls)
