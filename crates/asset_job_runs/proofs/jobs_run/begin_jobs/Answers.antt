use Rattle.std.proofs.Common.{refl, sym, ◌∙◌}
use Rattle.asset_job_runs.specs.JobsRun.{StopsBefore}
use Rattle.asset_job_runs.proofs.JobsRunLemmas.{if_ok, if_err, begins, stops_opening, stops_reading}
use Rattle.asset_job_runs.proofs.jobs_run.begin_jobs.Goals as goal

pub returns-in_default-clause-stopped : goal.returns-in_default-clause-stopped
unfolding StopsBefore
returns-in_default-clause-stopped g c = (sym c.limits_of.ensures.value ∙ c.in_default.is, refl)

pub returns-in-Ok-clause-begun : goal.returns-in-Ok-clause-begun
returns-in-Ok-clause-begun g c = if_ok c.open_script.result _ _ (λ begun same. begins g.R.Read.remaining c.args.request c.args.input.now c.read_jobs.new.input c.in-Ok.script begun.jobs begun.names.items c.in-Some.limits begun.limits
    c.in-Ok.ensures.script same.0 same.1 same.2 (sym c.in-Some.ensures.value)) c.open_script.ensures.begun

pub returns-in-Ok-clause-stopped : goal.returns-in-Ok-clause-stopped
returns-in-Ok-clause-stopped g c = if_err c.open_script.result _ _ (λ stop is. stops_opening g.R.Read.remaining c.args.request c.args.input.now c.read_jobs.new.input stop is) c.open_script.ensures.stopped

pub returns-in-Err-clause-stopped : goal.returns-in-Err-clause-stopped
returns-in-Err-clause-stopped g c = stops_reading g.R.Read.remaining c.args.request c.args.input.now c.read_jobs.new.input c.in-Err.fault c.from.result c.from.ensures c.in-Err.ensures.fault
