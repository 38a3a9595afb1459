-- What the bytes of a job script say.
use Rattle.std.specs.Prelude.{ℕ, ◌+◌, ◌==◌, ◌||◌, Bool, true, false, not, cond, List, [], ◌∷◌, ◌++◌, Option, None, Some, Result, Ok, Err}
use Rattle.std.specs.List.{list_any}
use Rattle.asset_names.specs.declared.names.Txn.{Txn}
use Rattle.asset_names.specs.Steps.{Opening}
use Rattle.asset_names.specs.Operations.{exists}
use Rattle.asset_grammar.specs.declared.job_lines.JobAct.{JobAct}
use Rattle.asset_grammar.specs.declared.job_lines.JobLine.{JobLine}
use Rattle.asset_grammar.specs.declared.job_lines.JobLine.TheVariants.{Blank, Object, Job, Act, Bad}
use Rattle.asset_grammar.specs.Lines.{lines}
use Rattle.asset_grammar.specs.JobLines.{job_line_of}

-- a job: its name, and its acts in order
abbrev pub Named : Type 0
Named = Txn × List JobAct

-- the name of a job
abbrev pub name_of : Named → Txn
name_of job = job.0

-- the objects with their values, and the jobs, in the order of their lines
pub record Script : Type 0 where
  pub opening : Opening
  pub jobs : List Named

-- no object and no job
abbrev pub empty : Script
empty = record { opening = []; jobs = [] }

-- whether there is no job
unfoldable pub has_none : List Named → Bool
has_none [] = true
has_none (job ∷ more) = false

-- whether one of the jobs has this name
unfoldable pub has_job : List Named → Txn → Bool
has_job jobs t = list_any (λ (job : Named). job.0.0 == t.0) jobs

-- the jobs with one more act of the last of them
unfoldable pub with_act : List Named → JobAct → List Named
with_act [] act = []
with_act (job ∷ more) act = cond (has_none more) ((job.0, job.1 ++ act ∷ []) ∷ more) (job ∷ with_act more act)

-- What lines say together with one more, unless that one is bad: an object comes once and before all jobs, a name begins one
-- job, and an act is of the job before it.
unfoldable pub with_line : Script → JobLine → Option Script
with_line said Blank = Some said
with_line said (Object object) = cond (not (has_none said.jobs) || exists said.opening object.0.0) None (Some (record said { opening = said.opening ++ object ∷ [] }))
with_line said (Job t) = cond (has_job said.jobs t) None (Some (record said { jobs = said.jobs ++ (t, []) ∷ [] }))
with_line said (Act act) = cond (has_none said.jobs) None (Some (record said { jobs = with_act said.jobs act }))
with_line said Bad = None

-- what a line leads to: line n is bad, or the later lines decide
unfoldable pub line_then : Option Script → ℕ → (Script → Result Script ℕ) → Result Script ℕ
line_then None n later = Err n
line_then (Some said) n later = later said

-- what the lines from line n on say after the ones before, or the number of the first bad line
unfoldable pub said_from : List (List ℕ) → ℕ → Script → Result Script ℕ
said_from [] n said = Ok said
said_from (line ∷ more) n said = line_then (with_line said (job_line_of line)) n (λ later. said_from more (n + 1) later)

-- what some bytes say, or the number of their first bad line
unfoldable pub jobs_of : List ℕ → Result Script ℕ
jobs_of bytes = said_from (lines bytes) 1 empty
