use Rattle.asset_job_runs.proofs.JobsEndLemmas.{ends_at_fault}
use Rattle.asset_job_runs.proofs.jobs_end.end_stopped.Goals as goal

pub returns-in_default : goal.returns-in_default
returns-in_default g c = ends_at_fault _ c.args.stop c.args.output.now _ c.in_default.not-BadLine c.say_stop.ensures
