-- Why jobs are not run to their end.
use Rattle.std.proofs.Common.{◌≡◌, ℕ, List, map, Option, Some, Result, Ok, Err, IfOk, IfErr, refl, sym, ◌∙◌}
use Rattle.asset_scripts.specs.Device.{DeviceState}
use Rattle.asset_scripts.specs.declared.faults.ScriptFault.{ScriptFault}
use Rattle.asset_scripts.specs.declared.faults.ScriptFault.TheVariants as ScriptFault'
use Rattle.std.specs.Prelude.{Vec, [], ◌∷◌}
use Rattle.std.specs.declared.alloc.Global.{Global}
use Rattle.std.proofs.Common.{ap}
use Rattle.asset_names.specs.declared.names.Txn.{Txn}
use Rattle.asset_names.specs.declared.counts.Counts.{Counts}
use Rattle.asset_names.specs.Counted.{IsBelow}
use Rattle.asset_audit.specs.Audited.{Call}
use Rattle.asset_audit.specs.declared.auditing.AuditFault.{AuditFault}
use Rattle.asset_bodies.specs.declared.ends.JobEnd.{JobEnd}
use Rattle.asset_runner.specs.Runs.{JobRun}
use Rattle.asset_jobs.specs.Ended.{row_among}
use Rattle.asset_jobs.specs.Texts.{jobs_text}
use Rattle.asset_grammar.specs.declared.job_lines.JobAct.{JobAct}
use Rattle.asset_jobs.specs.Jobs.{Named}
use Rattle.asset_jobs.specs.Scripts.{named, script_of}
use Rattle.asset_jobs.specs.declared.scripts.JobScript.{JobScript}
use Rattle.asset_jobs.specs.Reads.{GaveScript, FailsToRead, FailsToWrite}
use Rattle.asset_jobs.specs.declared.faults.JobsFault.{JobsFault}
use Rattle.asset_jobs.specs.declared.faults.JobsFault.TheVariants as JobsFault'
use Rattle.asset_job_runs.specs.declared.jobs_end.JobsStop.{JobsStop}
use Rattle.asset_job_runs.specs.declared.jobs_end.JobsStop.TheVariants.{BadLine, Read, Write, NoMemory, OutOfRange, InUse}
use Rattle.asset_requests.specs.declared.limits.JobsRequest.{JobsRequest}
use Rattle.asset_requests.specs.declared.limits.Limits.{Limits}
use Rattle.asset_job_runs.specs.JobsEnd.{stop_of_read, stop_of_write}
use Rattle.asset_requests.specs.Limits.{limits_by}
use Rattle.asset_job_runs.specs.JobsRun.{BeginsJobs, StopsBefore, StopsWriting, StopsAfter, RanJobs, IsAudited, SaysJobs}

-- a fault of reading is why jobs were not begun
pub stops_reading : {R : Type 0} (remaining : R → Option (List ℕ)) (request : JobsRequest) (old new : DeviceState R) (fault : JobsFault) (stop : JobsStop) → stop ≡ stop_of_read fault → FailsToRead remaining old new fault → StopsBefore remaining request old new stop
unfolding StopsBefore FailsToRead
stops_reading remaining request old new (JobsFault'.BadLine n) stop is fails = rw is fails
stops_reading remaining request old new JobsFault'.Read stop is fails = rw is fails
stops_reading remaining request old new JobsFault'.NoMemory stop is fails = rw is tt

-- a fault of writing is why their text was not written
pub stops_writing : {W : Type 0} (contents : W → Option (List ℕ)) (old new : DeviceState W) (text : List ℕ) (fault : ScriptFault) (stop : JobsStop) → stop ≡ stop_of_write fault → FailsToWrite contents old new text fault → StopsWriting contents old new text stop
unfolding StopsWriting FailsToWrite
stops_writing contents old new text ScriptFault'.Write stop is fails = rw is fails
stops_writing contents old new text ScriptFault'.NoMemory stop is fails = rw is fails
stops_writing contents old new text ScriptFault'.Read stop is fails = absurd fails

-- and so they were not finished
pub stops_after : {W : Type 0} (contents : W → Option (List ℕ)) (says : Result Unit AuditFault → List ℕ → Type 0) (audit : Result Unit AuditFault) (old new : DeviceState W) (text : List ℕ) (stop : JobsStop)
    → says audit text → StopsWriting contents old new text stop → StopsAfter contents says old new stop
unfolding StopsWriting StopsAfter
stops_after contents says audit old new text Write said stops = (audit, text, said, stops.0, stops.1)
stops_after contents says audit old new text NoMemory said stops = stops
stops_after contents says audit old new text (BadLine n) said stops = absurd stops
stops_after contents says audit old new text Read said stops = absurd stops
stops_after contents says audit old new text OutOfRange said stops = absurd stops
stops_after contents says audit old new text InUse said stops = absurd stops

-- before anything is written, only memory and the manager stop them
pub stops_unwritten : {W : Type 0} (contents : W → Option (List ℕ)) (says : Result Unit AuditFault → List ℕ → Type 0) (now : DeviceState W) (stop : JobsStop) → stop ≡ NoMemory → StopsAfter contents says now now stop
unfolding StopsAfter
stops_unwritten contents says now stop is = rw is refl

pub stops_in_use : {W : Type 0} (contents : W → Option (List ℕ)) (says : Result Unit AuditFault → List ℕ → Type 0) (now : DeviceState W) (stop : JobsStop) → stop ≡ InUse → StopsAfter contents says now now stop
unfolding StopsAfter
stops_in_use contents says now stop is = rw is refl

-- what holds of each value of a result holds of its value
pub if_ok : {A E : Type 0} (result : Result A E) (P Q : A → Type 0) → ((x : A) → P x → Q x) → IfOk result P → IfOk result Q
if_ok (Ok x) P Q then holds = then x holds
if_ok (Err e) P Q then holds = holds

pub if_err : {A E : Type 0} (result : Result A E) (P Q : E → Type 0) → ((e : E) → P e → Q e) → IfErr result P → IfErr result Q
if_err (Ok x) P Q then holds = holds
if_err (Err e) P Q then holds = then e holds

-- no memory, after the script was read
pub stops_opening : {R : Type 0} (remaining : R → Option (List ℕ)) (request : JobsRequest) (old new : DeviceState R) (stop : JobsStop) → stop ≡ NoMemory → StopsBefore remaining request old new stop
unfolding StopsBefore
stops_opening remaining request old new stop is = rw is tt

names_named : (jobs : List (Txn × Vec JobAct Global)) → map (λ (job : Txn × Vec JobAct Global). job.0) jobs ≡ map (λ (job : Named). job.0) (map named jobs)
names_named [] = refl
names_named (job ∷ jobs) = ap (λ names. job.0 ∷ names) (names_named jobs)

-- the jobs that were begun are those of the script
pub begins : {R : Type 0} (remaining : R → Option (List ℕ)) (request : JobsRequest) (old new : DeviceState R) (script : JobScript) (jobs : Vec (Txn × Vec JobAct Global) Global) (names : List Txn) (limits within : Limits)
    → GaveScript remaining old new (Ok (script_of script)) → jobs ≡ script.jobs → within ≡ limits → names ≡ map (λ (job : Txn × Vec JobAct Global). job.0) script.jobs.items → limits_by request ≡ Some limits
    → BeginsJobs remaining request old new (map named jobs.items) names within
begins remaining request old new script jobs names limits within gave same is called limited = record {
  opening = script.opening.items;
  script = rw same gave;
  named = called ∙ names_named script.jobs.items ∙ ap (λ (all : Vec (Txn × Vec JobAct Global) Global). map (λ (job : Named). job.0) (map named all.items)) (sym same);
  within = limited ∙ ap Some (sym is);
}

-- the jobs were run and audited, and this text says so, with counts that are not below those that were seen
pub says_jobs : {J : Type 0} (ran : J → JobRun → Type 0) (jobs : List J) (planned : List Txn) (plan : List Call) (seen : Counts) (names : List Txn) (audit : Result Unit AuditFault) (ends : List (Txn × JobEnd)) (sessions : List (List Call)) (counts : Counts)
    → RanJobs ran jobs planned plan ends sessions → IsAudited sessions audit → IsBelow seen counts → SaysJobs ran jobs planned plan seen names audit (jobs_text (map (row_among ends) names) audit counts)
says_jobs ran jobs planned plan seen names audit ends sessions counts ended audited later = record {
  ends = ends;
  sessions = sessions;
  counts = counts;
  ended = ended;
  audited = audited;
  later = later;
  says = refl;
}
