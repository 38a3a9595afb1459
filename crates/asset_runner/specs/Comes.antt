-- What a plan's run gives.
use Rattle.std.specs.Prelude.{◌≡◌, ◌<◌, ◌⊎◌, ℕ, List, [], ◌∷◌, ◌++◌, cond, map, Some, slice_get}
use Rattle.asset_names.specs.declared.names.Txn.{Txn}
use Rattle.asset_audit.specs.Audited.{Call}
use Rattle.asset_bodies.specs.declared.ends.JobEnd.{JobEnd}
use Rattle.asset_runner.specs.declared.report.RunCause.{RunCause}
use Rattle.asset_runner.specs.declared.report.RunCause.TheVariants.{NoWorkers, NoMemory, Stranger}
use Rattle.asset_runner.specs.Runs.{JobRun, is_called, ends_of, left_of, first_stranger}

-- There is one run for each job that was initiated, in order. If its body was called, its end by all runs is in `ends`, and
-- otherwise its name is in `left`. The sessions' calls are the plan's, and then those of the runs, in order.
pub record Comes (names : List Txn) (plan : List Call) (runs : List JobRun) (ends : List (Txn × JobEnd)) (left : List Txn) (sessions : List (List Call)) : Type 0 where
  pub names_are : map (λ (run : JobRun). run.name) runs ≡ names
  pub ends_are : ends ≡ ends_of runs runs
  pub left_are : left ≡ left_of runs
  pub sessions_are : sessions ≡ plan ∷ map (λ (run : JobRun). run.calls) runs

-- `ran` holds of the job and the run at each place that both lists have
abbrev pub RunsOf : {J : Type 0} → (J → JobRun → Type 0) → List J → List JobRun → Type 0
RunsOf {J} ran jobs runs = (i : ℕ) (job : J) (run : JobRun) → slice_get jobs i ≡ Some job → slice_get runs i ≡ Some run → ran job run

-- the names and bodies of the jobs whose bodies were not called, by the run at the place of each, in order
abbrev pub left_among : {J K : Type 0} → (J → Txn) → (J → K) → List J → List JobRun → List (Txn × K)
left_among name body (job ∷ jobs) (run ∷ runs) = cond (is_called run.answered) [] ((name job, body job) ∷ []) ++ left_among name body jobs runs
left_among name body jobs runs = []

-- a plan without jobs that is refused memory cannot give its session back in a list: there is nothing
pub record IsLost (names : List Txn) (runs : List JobRun) (ends : List (Txn × JobEnd)) (left : List Txn) (sessions : List (List Call)) : Type 0 where
  pub no_names : names ≡ []
  pub no_runs : runs ≡ []
  pub no_ends : ends ≡ []
  pub none_left : left ≡ []
  pub no_sessions : sessions ≡ []

-- what a plan's run gives that did not go as planned: what `Comes` says, or nothing
abbrev pub ComesOrLost : List Txn → List Call → List JobRun → List (Txn × JobEnd) → List Txn → List (List Call) → Type 0
ComesOrLost names plan runs ends left sessions = Comes names plan runs ends left sessions ⊎ IsLost names runs ends left sessions

-- why a run did not go as planned: there were no workers; there were some, memory ran out, and a job is left unless there were
-- no jobs; or there were some, and t is the first job whose body answered another's `Finished`
abbrev pub IsCause : ℕ → List JobRun → RunCause → Type 0
IsCause workers runs NoWorkers = workers ≡ 0
IsCause workers runs NoMemory = (0 < workers) × (left_of runs ≡ [] → runs ≡ [])
IsCause workers runs (Stranger t) = (0 < workers) × (first_stranger runs ≡ Some t)

-- the same of what the workers answer: `ran_out` is so if memory ran out, and strangers are looked for later
abbrev pub IsWorkCause : ℕ → Type 0 → RunCause → Type 0
IsWorkCause workers ran_out NoWorkers = workers ≡ 0
IsWorkCause workers ran_out NoMemory = (0 < workers) × ran_out
IsWorkCause workers ran_out (Stranger t) = ⊥
