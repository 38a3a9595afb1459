-- How a run of jobs ends.
use Rattle.std.specs.Prelude.{◌≡◌, ◌⊎◌, ℕ, true, List, Option, Result, Ok, Err}
use Rattle.std.specs.Io.KnownBytes.{Appends}
use Rattle.asset_audit.specs.declared.auditing.AuditFault.{AuditFault}
use Rattle.asset_scripts.specs.declared.faults.ScriptFault.{ScriptFault}
use Rattle.asset_scripts.specs.declared.faults.ScriptFault.TheVariants as ScriptFault'
use Rattle.asset_scripts.specs.Device.{DeviceState}
use Rattle.asset_scripts.specs.Transfers.{TookPrefix}
use Rattle.asset_printing.specs.Texts.{bad_line}
use Rattle.asset_jobs.specs.declared.faults.JobsFault.{JobsFault}
use Rattle.asset_jobs.specs.declared.faults.JobsFault.TheVariants as JobsFault'
use Rattle.asset_job_runs.specs.declared.jobs_end.JobsStop.{JobsStop}
use Rattle.asset_job_runs.specs.declared.jobs_end.JobsStop.TheVariants.{BadLine, Read, Write, NoMemory, OutOfRange}

-- why jobs were not run, by why their script was not read
abbrev pub stop_of_read : JobsFault → JobsStop
stop_of_read (JobsFault'.BadLine n) = BadLine n
stop_of_read JobsFault'.Read = Read
stop_of_read JobsFault'.NoMemory = NoMemory

-- why jobs did not come to their end, by why what they did was not written
abbrev pub stop_of_write : ScriptFault → JobsStop
stop_of_write ScriptFault'.Read = Read
stop_of_write ScriptFault'.Write = Write
stop_of_write ScriptFault'.NoMemory = NoMemory

-- the exit status: 2 if a line is bad or a number is out of range, and 1 otherwise, also if somebody else has the manager
unfoldable pub stop_status : JobsStop → ℕ
stop_status (BadLine n) = 2
stop_status OutOfRange = 2
stop_status stop = 1

-- the line that says that line n is bad was written, and the status is 2; or the status is 1, and the writer failed after a prefix of
-- it, or there was no memory and nothing was written
unfoldable pub SaysBadLine : {W : Type 0} → (W → Option (List ℕ)) → ℕ → DeviceState W → DeviceState W → ℕ → Type 0
SaysBadLine contents n old new status =
    ((status ≡ 2) × Appends (contents old.inner) (contents new.inner) (bad_line n)) ⊎ ((status ≡ 1) × (((new.failed ≡ true) × TookPrefix contents old new (bad_line n)) ⊎ (new ≡ old)))

-- how the program ends if jobs were stopped: at a bad line as `SaysBadLine` says; at any other stop nothing more is written, and the
-- status is that of the stop
unfoldable pub EndsStopped : {W : Type 0} → (W → Option (List ℕ)) → JobsStop → DeviceState W → DeviceState W → ℕ → Type 0
EndsStopped contents (BadLine n) old new status = SaysBadLine contents n old new status
EndsStopped contents stop old new status = (status ≡ stop_status stop) × (new ≡ old)

-- the status is 0 if the audit found nothing, and 1 if it did, and nothing more is written; jobs that were stopped end as `EndsStopped`
-- says
unfoldable pub EndsJobs : {W : Type 0} → (W → Option (List ℕ)) → Result (Result Unit AuditFault) JobsStop → DeviceState W → DeviceState W → ℕ → Type 0
EndsJobs contents (Ok (Ok u)) old new status = (status ≡ 0) × (new ≡ old)
EndsJobs contents (Ok (Err fault)) old new status = (status ≡ 1) × (new ≡ old)
EndsJobs contents (Err stop) old new status = EndsStopped contents stop old new status
