use Rattle.std.proofs.Common.{refl}
use Rattle.asset_jobs.specs.Jobs.{with_line}
use Rattle.asset_jobs.proofs.JobsLemmas.{job_taken, act_taken}
use Rattle.asset_jobs.proofs.parsing.take_line.Goals as goal

pub returns-in-Blank : goal.returns-in-Blank
unfolding with_line
returns-in-Blank c = rw c.in-Blank.is refl

pub returns-in-Job : goal.returns-in-Job
returns-in-Job c = rw c.in-Job.is (job_taken _ _ _ _ _ c.add.ensures.added c.add.ensures.grown)

pub returns-in-Act : goal.returns-in-Act
returns-in-Act c = rw c.in-Act.is (act_taken _ _ _ _ _ c.push_act.ensures.added c.push_act.ensures.grown)

pub returns-in-Bad : goal.returns-in-Bad
unfolding with_line
returns-in-Bad c = rw c.in-Bad.is refl
