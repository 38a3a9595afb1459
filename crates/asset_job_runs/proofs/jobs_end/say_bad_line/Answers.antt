use Rattle.std.proofs.Common.{refl, inl, inr}
use Rattle.asset_job_runs.specs.JobsEnd.{SaysBadLine, stop_status}
use Rattle.asset_job_runs.proofs.JobsEndLemmas.{says_nothing}
use Rattle.asset_job_runs.proofs.jobs_end.say_bad_line.Goals as goal

pub returns-in-Ok-write_all : goal.returns-in-Ok-write_all
unfolding SaysBadLine
returns-in-Ok-write_all g c =
    inl (refl, rw (c.as_bytes.ensures.value, c.in-Ok.ensures, c.new-text.ensures.bytes) at c.in-Ok-write_all.ensures.took)

pub returns-in-Ok : goal.returns-in-Ok
unfolding SaysBadLine stop_status
returns-in-Ok g c =
    inr (c.say_stop.ensures, inl (c.in-Err-write_all.ensures.failed, rw (c.as_bytes.ensures.value, c.in-Ok.ensures, c.new-text.ensures.bytes) at c.in-Err-write_all.ensures.prefix))

pub returns : goal.returns
unfolding stop_status
returns g c = says_nothing _ c.args.number c.args.output.now _ c.say_stop-in-Err.ensures
