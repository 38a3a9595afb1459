use Rattle.std.proofs.Common.{rules}
use Rattle.asset_job_runs.specs.JobsEnd.{EndsJobs}
use Rattle.asset_job_runs.proofs.jobs_end.end_jobs.Goals as goal

pub returns-in-Ok-Err : goal.returns-in-Ok-Err
unfolding EndsJobs
returns-in-Ok-Err g c = search rules
