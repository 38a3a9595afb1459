use Rattle.std.proofs.Common.{rules, inl, inr}
use Rattle.asset_job_runs.specs.JobsRun.{AddsJob, IsKeptOut}
use Rattle.asset_job_runs.proofs.jobs_run.add_job.Goals as goal

pub returns-in-Ok-clause-added : goal.returns-in-Ok-clause-added
unfolding AddsJob
returns-in-Ok-clause-added g c = search rules

pub returns-in-Full-clause-added : goal.returns-in-Full-clause-added
unfolding AddsJob IsKeptOut
returns-in-Full-clause-added g c = inr (c.in-Err.ensures.names, inl (rw c.in-Full.is at c.in-Err.ensures.asked))

pub returns-clause-added : goal.returns-clause-added
unfolding AddsJob IsKeptOut
returns-clause-added g c =
    let asked = rw c.in-Refused.is at c.in-Err.ensures.asked in
    inr (c.in-Err.ensures.names, inr (asked.0, c.in-Refused.field-0, asked.1))
