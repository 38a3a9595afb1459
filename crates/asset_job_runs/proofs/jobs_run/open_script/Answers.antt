use Rattle.std.proofs.Common.{rules}
use Rattle.asset_job_runs.proofs.jobs_run.open_script.Goals as goal

pub returns-in-Ok-names-clause-begun : goal.returns-in-Ok-names-clause-begun
returns-in-Ok-names-clause-begun c = search rules
