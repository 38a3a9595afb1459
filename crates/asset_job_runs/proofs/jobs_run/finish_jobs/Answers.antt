use Rattle.std.proofs.Common.{rules}
use Rattle.asset_job_runs.proofs.JobsRunLemmas.{says_jobs, stops_after, stops_unwritten, stops_in_use}
use Rattle.asset_job_runs.proofs.jobs_run.finish_jobs.Goals as goal

pub returns-in-Ok-close-clause-stopped : goal.returns-in-Ok-close-clause-stopped
returns-in-Ok-close-clause-stopped g c =
    let said = says_jobs _ _ _ _ _ c.args.names.now c.in-Ok-close.audit _ _ _ c.in-Ok.ensures.ran c.in-Ok-close.ensures.audited (search rules) in
    stops_after g.W.Write.contents _ c.in-Ok-close.audit c.args.output.now c.write_ends.new.output _ c.in-Err-write_ends.stop said (rw c.deref-in-Ok-close.ensures.value at c.in-Err-write_ends.ensures.stopped)

pub returns-in-Ok-clause-stopped : goal.returns-in-Ok-clause-stopped
returns-in-Ok-clause-stopped g c = stops_in_use g.W.Write.contents _ c.args.output.now c.in-Err-close.stop c.in-Err-close.ensures.stopped

pub returns-clause-stopped : goal.returns-clause-stopped
returns-clause-stopped g c = stops_unwritten g.W.Write.contents _ c.args.output.now c.in-Err.stop c.in-Err.ensures.stopped

pub returns-in-Ok-write_ends-clause-finished : goal.returns-in-Ok-write_ends-clause-finished
returns-in-Ok-write_ends-clause-finished g c =
    let said = says_jobs _ _ _ _ _ c.args.names.now c.in-Ok-close.audit _ _ _ c.in-Ok.ensures.ran c.in-Ok-close.ensures.audited (search rules) in
    (_, said, rw c.deref-in-Ok-close.ensures.value at c.in-Ok-write_ends.ensures.wrote)
