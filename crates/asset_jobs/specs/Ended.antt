-- How the jobs of a script ended.
use Rattle.std.specs.Prelude.{◌==◌, cond, List, [], ◌∷◌, Option, None, Some, unwrap_or}
use Rattle.std.specs.Map.{lookup}
use Rattle.asset_names.specs.declared.names.Txn.{Txn}
use Rattle.asset_bodies.specs.declared.ends.JobEnd.{JobEnd}
use Rattle.asset_bodies.specs.declared.ends.JobEnd.TheVariants as JobEnd'
use Rattle.asset_jobs.specs.declared.rows.JobText.{JobText}
use Rattle.asset_jobs.specs.declared.rows.JobText.TheVariants.{Committed, Aborted, Unsettled, NotBegun}

-- the text of an end
unfoldable pub text_of : JobEnd → JobText
text_of JobEnd'.Committed = Committed
text_of JobEnd'.Aborted = Aborted
text_of JobEnd'.Unsettled = Unsettled

-- the text of the last of the ends that is of this job, or what was known before
unfoldable pub last_end : Option JobText → List (Txn × JobEnd) → Txn → Option JobText
last_end known [] t = known
last_end known (end ∷ more) t = last_end (cond (end.0.0 == t.0) (Some (text_of end.1)) known) more t

-- the row of a job by what is known of its end: a job without an end was not begun
abbrev pub row_by : Option JobText → Txn → Txn × JobText
row_by known t = (t, unwrap_or known NotBegun)

-- the row of a job by the ends
unfoldable pub row_among : List (Txn × JobEnd) → Txn → Txn × JobText
row_among ends t = row_by (last_end None ends t) t

-- what a table knows of the end of a job
unfoldable pub known_in : List (Txn × JobText) → Txn → Option JobText
known_in entries t = lookup (λ (name : Txn). t.0 == name.0) entries
