use Rattle.std.proofs.Common.{refl}
use Rattle.asset_job_runs.specs.JobsRun.{StopsWriting}
use Rattle.asset_job_runs.proofs.JobsRunLemmas.{stops_writing}
use Rattle.asset_job_runs.proofs.jobs_run.write_ends.Goals as goal

pub returns-in-Ok-clause-stopped : goal.returns-in-Ok-clause-stopped
returns-in-Ok-clause-stopped g c = stops_writing _ _ _ _ c.in-Err-write_jobs.fault _ c.from.ensures (rw (c.deref.ensures.value, c.in-Ok.ensures) at c.in-Err-write_jobs.ensures.stopped)

pub returns-clause-stopped : goal.returns-clause-stopped
unfolding StopsWriting
returns-clause-stopped g c = refl
