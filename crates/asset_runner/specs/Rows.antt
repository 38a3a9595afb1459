-- Rows of what came back.
use Rattle.std.specs.Prelude.{◌≡◌, ℕ, List, [], ◌∷◌, ◌++◌, map, Vec, Option, None, Some, IfSome, slice_get}
use Rattle.std.specs.Arc.{arc_value}
use Rattle.std.specs.declared.dyn_box.DynBox.{DynBox}
use Rattle.std.specs.declared.alloc.Global.{Global}
use Rattle.asset_names.specs.declared.names.Txn.{Txn}
use Rattle.asset_bodies.specs.Working.{Working, Worked}
use Rattle.asset_queue.specs.Each.{IsAmong}
use Rattle.asset_runner.specs.declared.arrival.Arrival.{Arrival}
use Rattle.asset_runner.specs.declared.job.Planned.{Planned}
use Rattle.asset_runner.specs.Runs.{JobRun}
use Rattle.asset_runner.specs.Fates.{body_of}
use Rattle.asset_runner.specs.Arrived.{run_of, GoesOn, DoesJob}

-- what all rows have, one row after another
abbrev pub all_of : {E A : Type 0} → List (Vec E A) → List E
all_of [] = []
all_of (row ∷ rows) = row.items ++ all_of rows

-- the name with the body, if there is one
abbrev pub kept_row : {K : Type 0} → Txn → Option K → List (Txn × K)
kept_row t None = []
kept_row t (Some body) = (t, body) ∷ []

module _ {X : Type 0} {B : X → Type 0} where
  -- what may come of a job whose body answers as `post` says; if the body was not called, it is the job's own that is left
  abbrev pub ComesOf : {callable : _} → (Working → Worked → Type 0) → Planned X B callable → Arrival X B → Type 0
  ComesOf post job a = DoesJob post job.name (arc_value job.manager) job.session.list.calls a × IfSome (body_of a.fate) (λ body. body ≡ job.body)

  -- each that stands in this order goes on from one of these, which has the same place
  abbrev pub CameBack : List (Arrival X B) → List (Arrival X B) → Type 0
  CameBack all order = (i : ℕ) (b : Arrival X B) → slice_get order i ≡ Some b → (a : Arrival X B) × IsAmong all a × (a.place ≡ i) × GoesOn a b

  -- the names of these jobs, in order
  abbrev pub names_of : List (Arrival X B) → List Txn
  names_of all = map (λ (a : Arrival X B). a.name) all

  -- what came of these jobs, in order, without their places and their bodies
  abbrev pub runs_of : List (Arrival X B) → List JobRun
  runs_of all = map run_of all

  -- the names and bodies of the jobs whose bodies were not called, in order
  abbrev pub kept_of : List (Arrival X B) → List (Txn × DynBox X Global B)
  kept_of [] = []
  kept_of (a ∷ all) = kept_row a.name (body_of a.fate) ++ kept_of all
