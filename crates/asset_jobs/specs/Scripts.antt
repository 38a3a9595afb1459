-- What a script that was read says.
use Rattle.std.specs.Prelude.{List, map, Vec}
use Rattle.std.specs.declared.alloc.Global.{Global}
use Rattle.asset_names.specs.declared.names.Txn.{Txn}
use Rattle.asset_names.specs.Steps.{Opening}
use Rattle.asset_grammar.specs.declared.job_lines.JobAct.{JobAct}
use Rattle.asset_jobs.specs.declared.scripts.JobScript.{JobScript}
use Rattle.asset_jobs.specs.Jobs.{Named, Script}

-- a job without what its vector has besides its items
abbrev pub named : Txn × Vec JobAct Global → Named
named job = (job.0, job.1.items)

-- the objects and the jobs of a script
abbrev pub script_of : JobScript → Script
script_of script = record { opening = script.opening.items; jobs = map named script.jobs.items }

-- the objects and the jobs so far
abbrev pub so_far : Opening → List Named → Script
so_far opening jobs = record { opening = opening; jobs = jobs }
