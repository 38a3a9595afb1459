-- What reading, adding and running the jobs of a script comes to.
use Rattle.std.specs.Prelude.{◌≡◌, ◌⊎◌, ◌++◌, ◌∷◌, [], ℕ, true, List, map, reverse, Option, None, Some, Result, Ok, Err}
use Rattle.std.specs.Io.KnownBytes.{Appends}
use Rattle.asset_names.specs.declared.names.Txn.{Txn}
use Rattle.asset_names.specs.declared.counts.Counts.{Counts}
use Rattle.asset_names.specs.declared.steps.Step.TheVariants.{Initiate}
use Rattle.asset_names.specs.declared.replies.Reply.TheVariants.{Refused}
use Rattle.asset_names.specs.declared.replies.Refusal.{Refusal}
use Rattle.asset_names.specs.Steps.{Opening, Entry}
use Rattle.asset_names.specs.Answers.{IsLegal}
use Rattle.asset_names.specs.Counted.{IsBelow}
use Rattle.asset_audit.specs.Audited.{Call, IsAudit}
use Rattle.asset_audit.specs.declared.auditing.AuditFault.{AuditFault}
use Rattle.asset_bodies.specs.declared.ends.JobEnd.{JobEnd}
use Rattle.asset_scripts.specs.Device.{DeviceState}
use Rattle.asset_scripts.specs.Transfers.{IsReadFault, TookPrefix}
use Rattle.asset_jobs.specs.Ended.{row_among}
use Rattle.asset_jobs.specs.Jobs.{Named}
use Rattle.asset_jobs.specs.Reads.{GaveScript}
use Rattle.asset_jobs.specs.Texts.{jobs_text}
use Rattle.asset_runner.specs.Comes.{Comes, RunsOf}
use Rattle.asset_runner.specs.Initiated.{IsInitiated}
use Rattle.asset_runner.specs.Runs.{JobRun, first_stranger}
use Rattle.asset_job_runs.specs.declared.jobs_end.JobsStop.{JobsStop}
use Rattle.asset_job_runs.specs.declared.jobs_end.JobsStop.TheVariants.{BadLine, Read, Write, NoMemory, OutOfRange, InUse}
use Rattle.asset_requests.specs.declared.limits.JobsRequest.{JobsRequest}
use Rattle.asset_requests.specs.declared.limits.Limits.{Limits}
use Rattle.asset_requests.specs.Limits.{limits_by}

-- all bytes of the reader say these jobs, which have these names, and these limits were asked for
pub record BeginsJobs {R : Type 0} (remaining : R → Option (List ℕ)) (request : JobsRequest) (old new : DeviceState R) (jobs : List Named) (names : List Txn) (limits : Limits) : Type 0 where
  pub opening : Opening
  pub script : GaveScript remaining old new (Ok (record { opening = opening; jobs = jobs }))
  pub named : names ≡ map (λ (job : Named). job.0) jobs
  pub within : limits_by request ≡ Some limits

-- why jobs were not begun: a number is out of range, and nothing was read; a bad line; a fault of the reader; or no memory
unfoldable pub StopsBefore : {R : Type 0} → (R → Option (List ℕ)) → JobsRequest → DeviceState R → DeviceState R → JobsStop → Type 0
StopsBefore remaining request old new OutOfRange = (limits_by request ≡ None) × (new ≡ old)
StopsBefore remaining request old new (BadLine n) = GaveScript remaining old new (Err n)
StopsBefore remaining request old new Read = IsReadFault remaining old new
StopsBefore remaining request old new NoMemory = Unit {0}
StopsBefore remaining request old new stop = ⊥

-- the initiation was refused, which is one call more, or there was no room for it, which is none
unfoldable pub IsKeptOut : List Call → Txn → List Call → Type 0
IsKeptOut calls t calls' = (calls' ≡ calls) ⊎ ((n : ℕ) × (refusal : Refusal) × (calls' ≡ calls ++ (n, Initiate t None, Refused refusal) ∷ []))

-- the job is one more of the plan after an initiation that is answered `Done`; or it is kept out
unfoldable pub AddsJob : List Txn → List Call → Txn → List Txn → List Call → Type 0
AddsJob names calls t names' calls' =
    ((names' ≡ names ++ t ∷ []) × IsInitiated calls (Initiate t None) calls') ⊎ ((names' ≡ names) × IsKeptOut calls t calls')

-- the jobs of a plan were run, and ended so: what came of each is what `ran` says may come of it, no body answered another's
-- `Finished`, and the plan's session and then theirs have these calls
pub record RanJobs {J : Type 0} (ran : J → JobRun → Type 0) (jobs : List J) (planned : List Txn) (plan : List Call) (ends : List (Txn × JobEnd)) (sessions : List (List Call)) : Type 0 where
  pub runs : List JobRun
  pub left : List Txn
  pub came : Comes planned plan runs ends left sessions
  pub no_stranger : first_stranger runs ≡ None
  pub bodies : RunsOf ran jobs runs

-- this is the audit of the sessions against some legal history
pub record IsAudited (sessions : List (List Call)) (audit : Result Unit AuditFault) : Type 0 where
  pub opening : Opening
  pub entries : List Entry
  pub legal : IsLegal opening entries
  pub audited : IsAudit (reverse entries) sessions audit

-- the jobs of a plan were run and their sessions audited, and this text says how those of these names ended, with counts that are
-- not below those that the plan's session had seen
pub record SaysJobs {J : Type 0} (ran : J → JobRun → Type 0) (jobs : List J) (planned : List Txn) (plan : List Call) (seen : Counts) (names : List Txn) (audit : Result Unit AuditFault) (text : List ℕ) : Type 0 where
  pub ends : List (Txn × JobEnd)
  pub sessions : List (List Call)
  pub counts : Counts
  pub ended : RanJobs ran jobs planned plan ends sessions
  pub audited : IsAudited sessions audit
  pub later : IsBelow seen counts
  pub says : text ≡ jobs_text (map (row_among ends) names) audit counts

-- the text that says how jobs ended was written
abbrev pub FinishesJobs : {W : Type 0} → (W → Option (List ℕ)) → (Result Unit AuditFault → List ℕ → Type 0) → Result Unit AuditFault → DeviceState W → DeviceState W → Type 0
FinishesJobs contents says audit old new = (text : List ℕ) × says audit text × Appends (contents old.inner) (contents new.inner) text

-- why the text of jobs was not written: the writer failed after a prefix of it, or there was no memory
unfoldable pub StopsWriting : {W : Type 0} → (W → Option (List ℕ)) → DeviceState W → DeviceState W → List ℕ → JobsStop → Type 0
StopsWriting contents old new text Write = TookPrefix contents old new text × (new.failed ≡ true)
StopsWriting contents old new text NoMemory = new ≡ old
StopsWriting contents old new text stop = ⊥

-- why jobs were not finished: the writer failed after a prefix of the text that says how they ended; or nothing was written, because
-- there was no memory or the run failed (`NoMemory`), or somebody else had the manager (`InUse`)
unfoldable pub StopsAfter : {W : Type 0} → (W → Option (List ℕ)) → (Result Unit AuditFault → List ℕ → Type 0) → DeviceState W → DeviceState W → JobsStop → Type 0
StopsAfter contents says old new Write = (audit : Result Unit AuditFault) × (text : List ℕ) × says audit text × TookPrefix contents old new text × (new.failed ≡ true)
StopsAfter contents says old new NoMemory = new ≡ old
StopsAfter contents says old new InUse = new ≡ old
StopsAfter contents says old new stop = ⊥
