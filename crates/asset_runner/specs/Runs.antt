-- What came of the jobs of a plan, in order of initiation.
use Rattle.std.specs.Prelude.{ℕ, Bool, true, false, not, cond, ◌==◌, List, [], ◌∷◌, ◌++◌, Option, Some, None}
use Rattle.asset_names.specs.declared.names.Txn.{Txn}
use Rattle.asset_audit.specs.Audited.{Call}
use Rattle.asset_bodies.specs.declared.ends.JobEnd.{JobEnd}
use Rattle.asset_bodies.specs.declared.ends.JobEnd.TheVariants.{Unsettled}
use Rattle.asset_bodies.specs.Ends.{job_end}

-- a job after the run: its name, whose `Finished` its body answered (nobody's if it was not called), and the calls of
-- the session that came back
pub record JobRun : Type 0 where
  pub name : Txn
  pub answered : Option Txn
  pub calls : List Call

-- the body answered the `Finished` of t
abbrev pub is_of : ℕ → Option Txn → Bool
is_of t None = false
is_of t (Some u) = u.0 == t

-- how t ended, by the calls of the first session that came back in a `Finished` of t, and unsettled if none did
abbrev pub end_in : List JobRun → ℕ → JobEnd
end_in [] t = Unsettled
end_in (run ∷ runs) t = cond (is_of t run.answered) (job_end t run.calls) (end_in runs t)

-- whether the body was called, which is so if it answered somebody's `Finished`
abbrev pub is_called : Option Txn → Bool
is_called None = false
is_called (Some u) = true

-- the name t with its end by all runs, if its body was called, and nothing otherwise
abbrev pub end_row : List JobRun → Txn → Option Txn → List (Txn × JobEnd)
end_row all t answered = cond (is_called answered) ((t, end_in all t.0) ∷ []) []

-- of each job of the second list whose body was called, in order, its name with its end by all runs, the first list
abbrev pub ends_of : List JobRun → List JobRun → List (Txn × JobEnd)
ends_of all [] = []
ends_of all (run ∷ runs) = end_row all run.name run.answered ++ ends_of all runs

-- the name t, if its body was not called, and nothing otherwise
abbrev pub left_row : Txn → Option Txn → List Txn
left_row t answered = cond (is_called answered) [] (t ∷ [])

-- the names of the jobs whose bodies were not called, in order
abbrev pub left_of : List JobRun → List Txn
left_of [] = []
left_of (run ∷ runs) = left_row run.name run.answered ++ left_of runs

-- the body answered another's `Finished`
abbrev pub is_strange : Txn → Option Txn → Bool
is_strange t None = false
is_strange t (Some u) = not (u.0 == t.0)

-- the first job whose body answered another's `Finished`
abbrev pub first_stranger : List JobRun → Option Txn
first_stranger [] = None
first_stranger (run ∷ runs) = cond (is_strange run.name run.answered) (Some run.name) (first_stranger runs)
