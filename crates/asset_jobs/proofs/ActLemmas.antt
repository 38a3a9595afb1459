-- Acts that are done one after another.
use Rattle.std.proofs.Common.{◌≡◌, ℕ, ◌<◌, suc, Bool, true, false, List, [], ◌∷◌, ◌++◌, length, get_or, take, drop, refl, sym, ap, ◌∙◌, subst, inl, inr, take-append-drop, drop-cons}
use Rattle.std.specs.Prelude.{ℤ, Result}
use Rattle.asset_names.specs.declared.names.Txn.{Txn}
use Rattle.asset_names.specs.declared.names.Ob.{Ob}
use Rattle.asset_names.specs.declared.steps.Step.{Step}
use Rattle.asset_names.specs.declared.steps.Step.TheVariants as Step'
use Rattle.asset_names.specs.declared.replies.Outcome.{Outcome}
use Rattle.asset_names.specs.declared.replies.Fault.{Fault}
use Rattle.asset_audit.specs.Audited.{Call}
use Rattle.asset_manager.specs.Listed.{IsListed}
use Rattle.asset_grammar.specs.declared.job_lines.JobAct.{JobAct}
use Rattle.asset_grammar.specs.declared.job_lines.JobAct.TheVariants.{Read, Write, Add, GiveUp}
use Rattle.asset_jobs.specs.Acts.{goes_on, AsksThen, DoesActs}

true_is_false : {A : Type 0} → true ≡ false → A
true_is_false e = absurd (cc)

-- one step, and nothing after it
asks_alone : (step : Step) (before later : List Call) (met : Result Outcome Fault) (all : Bool) → IsListed before step met later → all ≡ goes_on met
    → AsksThen step before (λ between. (all ≡ true) × (later ≡ between)) all later
unfolding AsksThen
asks_alone step before later met true listed e = (met, later, listed, inl (sym e, (refl, refl)))
asks_alone step before later met false listed e = (met, later, listed, inr (sym e, refl, refl))

pub reads_alone : (t : Txn) (x : Ob) (before later : List Call) (met : Result Outcome Fault) (all : Bool) → IsListed before (Step'.Read t x) met later → all ≡ goes_on met → DoesActs t (Read x ∷ []) before all later
unfolding DoesActs
reads_alone t x before later met all listed e = asks_alone _ before later met all listed e

pub writes_alone : (t : Txn) (x : Ob) (v w : ℤ) (before later : List Call) (met : Result Outcome Fault) (all : Bool) → w ≡ v → IsListed before (Step'.Write t x w) met later → all ≡ goes_on met → DoesActs t (Write x v ∷ []) before all later
unfolding DoesActs
writes_alone t x v w before later met all same listed e = asks_alone _ before later met all (subst (λ u. IsListed before (Step'.Write t x u) met later) same listed) e

pub adds_alone : (t : Txn) (x : Ob) (v w : ℤ) (before later : List Call) (met : Result Outcome Fault) (all : Bool) → w ≡ v → IsListed before (Step'.Add t x w) met later → all ≡ goes_on met → DoesActs t (Add x v ∷ []) before all later
unfolding DoesActs
adds_alone t x v w before later met all same listed e = asks_alone _ before later met all (subst (λ u. IsListed before (Step'.Add t x u) met later) same listed) e

-- a step after which the rest is more
asks_more : (step : Step) (before mid later : List Call) (rest more : List Call → Type 0) (all : Bool) → AsksThen step before rest true mid → ((between : List Call) → rest between → more between) → AsksThen step before more all later
unfolding AsksThen
asks_more step before mid later rest more all (met, between, listed, inl (e, h)) grows = (met, between, listed, inl (e, grows between h))
asks_more step before mid later rest more all (met, between, listed, inr (e, ends, h)) grows = true_is_false ends

-- acts that are all done, and then others
pub does_then : (t : Txn) (first then : List JobAct) (before mid later : List Call) (all : Bool) → DoesActs t first before true mid → DoesActs t then mid all later → DoesActs t (first ++ then) before all later
unfolding DoesActs
does_then t [] then before mid later all h g = subst (λ calls. DoesActs t then calls all later) h.1 g
does_then t (Read x ∷ first) then before mid later all h g = asks_more _ before mid later _ _ all h (λ between rest. does_then t first then between mid later all rest g)
does_then t (Write x v ∷ first) then before mid later all h g = asks_more _ before mid later _ _ all h (λ between rest. does_then t first then between mid later all rest g)
does_then t (Add x d ∷ first) then before mid later all h g = asks_more _ before mid later _ _ all h (λ between rest. does_then t first then between mid later all rest g)
does_then t (GiveUp ∷ first) then before mid later all h g = true_is_false h.0

-- an act after which a job does not go on is the last that is done
asks_last : (step : Step) (before later : List Call) (rest more : List Call → Type 0) → AsksThen step before rest false later → ((between : List Call) → rest between → more between) → AsksThen step before more false later
unfolding AsksThen
asks_last step before later rest more (met, between, listed, inl (e, h)) grows = (met, between, listed, inl (e, grows between h))
asks_last step before later rest more (met, between, listed, inr (e, ends, h)) grows = (met, between, listed, inr (e, ends, h))

does_last : (t : Txn) (first then : List JobAct) (before later : List Call) → DoesActs t first before false later → DoesActs t (first ++ then) before false later
unfolding DoesActs
does_last t [] then before later h = true_is_false (sym h.0)
does_last t (Read x ∷ first) then before later h = asks_last _ before later _ _ h (λ between rest. does_last t first then between later rest)
does_last t (Write x v ∷ first) then before later h = asks_last _ before later _ _ h (λ between rest. does_last t first then between later rest)
does_last t (Add x d ∷ first) then before later h = asks_last _ before later _ _ h (λ between rest. does_last t first then between later rest)
does_last t (GiveUp ∷ first) then before later h = h

-- the acts before the one at i were done, and that one is the last
pub does_stop : (t : Txn) (acts : List JobAct) (i : ℕ) (d : JobAct) (before mid later : List Call) → i < length acts → DoesActs t (take i acts) before true mid → DoesActs t (get_or acts i d ∷ []) mid false later → DoesActs t acts before false later
does_stop t acts i d before mid later below h g =
    let whole : take i acts ++ (get_or acts i d ∷ drop (suc i) acts) ≡ acts = ap (λ (l : List JobAct). take i acts ++ l) (sym (drop-cons acts i d below)) ∙ take-append-drop i acts in
    subst (λ (l : List JobAct). DoesActs t l before false later) whole (does_then t (take i acts) _ before mid later false h (does_last t (get_or acts i d ∷ []) (drop (suc i) acts) mid later g))
