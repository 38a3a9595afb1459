-- An act that joins the last job of a draft.
use Rattle.std.proofs.Common.{◌≡◌, ℕ, ◌+◌, zero, suc, true, false, List, [], ◌∷◌, ◌++◌, map, length, get_or, set, refl, ap, ◌∙◌, arith}
use Rattle.std.specs.Prelude.{Vec}
use Rattle.std.specs.declared.alloc.Global.{Global}
use Rattle.asset_names.specs.declared.names.Txn.{Txn}
use Rattle.asset_grammar.specs.declared.job_lines.JobAct.{JobAct}
use Rattle.asset_jobs.specs.Jobs.{Named, name_of, with_act, has_none}
use Rattle.asset_jobs.specs.Scripts.{named}

-- a job as the draft holds it
abbrev Held : Type 0
Held = Txn × Vec JobAct Global

-- with other acts of one job the names stay
pub names_stay : (k : ℕ) (jobs : List Held) (job : Held) (acts : Vec JobAct Global) → job ≡ get_or jobs k job → map name_of (map named (set jobs k (job.0, acts))) ≡ map name_of (map named jobs)
names_stay k [] job acts at = refl
names_stay zero (first ∷ more) job acts at = ap (λ (t : Txn). t ∷ map name_of (map named more)) (ap (λ (j : Held). j.0) at)
names_stay (suc k) (first ∷ more) job acts at = ap (λ (l : List Txn). first.0 ∷ l) (names_stay k more job acts at)

-- with one more act in the vector of the last job, the last job has that act more
pub last_acts : (k : ℕ) (jobs : List Held) (job : Held) (acts : Vec JobAct Global) (act : JobAct) → job ≡ get_or jobs k job → acts.items ≡ job.1.items ++ act ∷ [] → k + 1 ≡ length jobs
    → map named (set jobs k (job.0, acts)) ≡ with_act (map named jobs) act
unfolding with_act has_none
last_acts zero [] job acts act at more last = absurd (omega arith)
last_acts zero (first ∷ []) job acts act at more last = λ i. ((at i).0, (more ∙ ap (λ (j : Held). j.1.items ++ act ∷ []) at) i) ∷ []
last_acts zero (first ∷ next ∷ rest) job acts act at more last = absurd (omega arith)
last_acts (suc k) [] job acts act at more last = absurd (omega arith)
last_acts (suc k) (first ∷ []) job acts act at more last = absurd (omega arith)
last_acts (suc k) (first ∷ next ∷ rest) job acts act at more last = ap (λ (l : List Named). named first ∷ l) (last_acts k (next ∷ rest) job acts act at more (omega arith))

-- a draft with jobs is not empty
pub some_jobs : (jobs : List Held) → (length jobs ≡ 0 → ⊥) → has_none (map named jobs) ≡ false
unfolding has_none
some_jobs [] some = absurd (some refl)
some_jobs (first ∷ more) some = refl

pub no_jobs : (jobs : List Held) → length jobs ≡ 0 → has_none (map named jobs) ≡ true
unfolding has_none
no_jobs [] none = refl
no_jobs (first ∷ more) none = absurd (omega arith)
