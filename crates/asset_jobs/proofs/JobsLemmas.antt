-- Jobs as they are added, and what one line does.
use Rattle.std.proofs.Common.{◌≡◌, Bool, true, false, not, cond, eqb, ◌||◌, List, [], ◌∷◌, ◌++◌, map, refl, sym, ◌∙◌, ap, Some, None, Ok, Err}
use Rattle.std.specs.Prelude.{ℤ, Result, IfOk}
use Rattle.std.specs.Bool.{OnTrue}
use Rattle.std.specs.List.{list_any}
use Rattle.std.proofs.lemmas.Bool.{not-true, not-false}
use Rattle.asset_names.specs.declared.names.Txn.{Txn}
use Rattle.asset_names.specs.declared.names.Ob.{Ob}
use Rattle.asset_names.specs.declared.replies.NoMemory.{NoMemory}
use Rattle.asset_names.specs.Steps.{Opening}
use Rattle.asset_names.specs.Operations.{exists}
use Rattle.asset_names.proofs.Common.{eqb-flip}
use Rattle.asset_grammar.specs.declared.job_lines.JobAct.{JobAct}
use Rattle.asset_grammar.specs.declared.job_lines.JobLine.TheVariants.{Object, Job, Act}
use Rattle.asset_jobs.specs.Jobs.{Named, name_of, has_job, has_none, with_act, with_line}
use Rattle.asset_jobs.specs.Scripts.{so_far}

-- a job of this name is there if a test that it alone passes finds it among the names
pub found_job : (test : Txn → Bool) (t : Txn) → ((u : Txn) → test u ≡ eqb t.0 u.0) → (names : List Txn) (jobs : List Named) → names ≡ map name_of jobs
    → list_any test names ≡ has_job jobs t
unfolding has_job
found_job test t finds names jobs kept = ap (list_any test) kept ∙ go jobs where
  go : (jobs : List Named) → list_any test (map name_of jobs) ≡ list_any (λ (job : Named). eqb job.0.0 t.0) jobs
  go [] = refl
  go (job ∷ jobs) = λ i. (finds job.0 ∙ eqb-flip t.0 job.0.0) i || go jobs i

-- an object that was added, or is refused because of a job or because it was there
pub object_taken : (opening opening' : Opening) (jobs : List Named) (object : Ob × ℤ) (added : Bool) → has_none jobs ≡ true → added ≡ not (exists opening object.0.0) → OnTrue added (opening' ≡ opening ++ object ∷ [])
    → with_line (so_far opening jobs) (Object object) ≡ cond added (Some (so_far opening' jobs)) None
unfolding with_line
object_taken opening opening' jobs object true none e grown = rw (none, not-true _ (sym e), grown) refl
object_taken opening opening' jobs object false none e grown = rw (none, not-false _ (sym e)) refl

pub object_late : (opening : Opening) (jobs : List Named) (object : Ob × ℤ) → has_none jobs ≡ false
    → with_line (so_far opening jobs) (Object object) ≡ None
unfolding with_line
object_late opening jobs object some = rw some refl

-- a job that was added, or is refused because its name was there
pub job_taken : (opening : Opening) (old new : List Named) (t : Txn) (r : Result Bool NoMemory) → IfOk r (λ added. added ≡ not (has_job old t)) → IfOk r (λ added. OnTrue added (new ≡ old ++ (t, []) ∷ []))
    → IfOk r (λ good. with_line (so_far opening old) (Job t) ≡ cond good (Some (so_far opening new)) None)
unfolding with_line
job_taken opening old new t (Ok true) e grown = rw (not-true _ (sym e), grown) refl
job_taken opening old new t (Ok false) e grown = rw (not-false _ (sym e)) refl
job_taken opening old new t (Err fault) e grown = tt

-- an act that was added, or is refused because there is no job
pub act_taken : (opening : Opening) (old new : List Named) (act : JobAct) (r : Result Bool NoMemory) → IfOk r (λ added. added ≡ not (has_none old)) → IfOk r (λ added. OnTrue added (new ≡ with_act old act))
    → IfOk r (λ good. with_line (so_far opening old) (Act act) ≡ cond good (Some (so_far opening new)) None)
unfolding with_line
act_taken opening old new act (Ok true) e grown = rw (not-true _ (sym e), grown) refl
act_taken opening old new act (Ok false) e grown = rw (not-false _ (sym e)) refl
act_taken opening old new act (Err fault) e grown = tt
