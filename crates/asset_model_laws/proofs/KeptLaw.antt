-- In `nested` a parent stays responsible for what its children handed over, if nobody else acts in its name.
use Rattle.std.proofs.Common.{◌≡◌, ◌<◌, ℕ, zero, suc, eqb, eq-eqb, Bool, true, false, cond, List, [], ◌∷◌, ◌++◌, length, append_assoc, refl, sym, ◌∙◌, ap, subst, Some, inl, inr, arith}
use Rattle.std.specs.Prelude.{Result, Contains, slice_index_or}
use Rattle.std.specs.List.{list_all}
use Rattle.std.proofs.lemmas.Bool.{eqb-true, and_from, and_parts}
use Rattle.asset_names.specs.declared.names.Txn.{Txn}
use Rattle.asset_names.specs.declared.sets.ObSet.TheVariants.{All}
use Rattle.asset_names.specs.declared.steps.Step.{Step}
use Rattle.asset_names.specs.declared.steps.Step.TheVariants.{Initiate, Begin, Read, Write, Add, Complete, Permit, Delegate, Abort}
use Rattle.asset_names.specs.declared.replies.Fault.{Fault}
use Rattle.asset_names.specs.declared.replies.Reply.{Reply}
use Rattle.asset_names.specs.declared.replies.Reply.TheVariants as Reply'
use Rattle.asset_names.specs.declared.replies.Outcome.TheVariants.{Answer}
use Rattle.asset_names.specs.Steps.{Opening, Entry, takes_effect, applied}
use Rattle.asset_names.specs.Answers.{IsLegal, answer}
use Rattle.asset_names.proofs.AppliedLemmas.{applied_with_effect, applied_without_effect}
use Rattle.asset_names.proofs.LegalLemmas.{delegate_live}
use Rattle.asset_laws.proofs.GroupLemmas.{legal_rest}
use Rattle.asset_models.specs.declared.parts.Act.{Act}
use Rattle.asset_models.specs.declared.parts.Act.TheVariants as Act'
use Rattle.asset_models.specs.declared.parts.Part.{Part}
use Rattle.asset_models.specs.declared.parts.ModelEnd.{ModelEnd}
use Rattle.asset_models.specs.declared.parts.ModelEnd.TheVariants as ModelEnd'
use Rattle.asset_models.specs.Courses.{Course, IsRun, is_refusal, must_course, must_each_course, starts, by_commit, commit_course, operation_course, act_course, acts_course, acts_of, all_operations, child_course, children_course, give_up, last_commit, nested_course}
use Rattle.asset_models.specs.Courses.Course.{ends, asks}
use Rattle.asset_model_laws.specs.Amid.{OnlyOthers, IsAmid}
use Rattle.asset_model_laws.specs.Owners.{responsible}
use Rattle.asset_model_laws.specs.Handing.{is_anothers, TakesAll}
use Rattle.asset_model_laws.proofs.OwnerLaws.{all_handed}
use Rattle.asset_model_laws.proofs.AmidLemmas.{legal_at}
use Rattle.asset_model_laws.proofs.HandingLaws.{KeepsOf, kept_by, since}

-- a step that hands over to nobody but p
unfoldable goes_to : Txn → Step → Bool
goes_to p (Delegate giver taker obs) = eqb taker.0 p.0
goes_to p step = true

-- each step that a course asks does so
unfoldable AllTo : Txn → Course → Type 0
AllTo p (ends end) = Unit {0}
AllTo p (asks step next) = (goes_to p step ≡ true) × ((reply : Reply) → AllTo p (next reply))

abbrev AllGo : Txn → List Step → Type 0
AllGo p [] = Unit {0}
AllGo p (step ∷ steps) = (goes_to p step ≡ true) × AllGo p steps

must_to : (p : Txn) (step : Step) (next : Course) → goes_to p step ≡ true → AllTo p next → AllTo p (must_course step next)
unfolding must_course AllTo
must_to p step next here later = (here, λ reply. go (is_refusal reply)) where
  go : (refused : Bool) → AllTo p (cond refused (ends (ModelEnd'.Refused step)) next)
  go true = tt
  go false = later

musts_to : (p : Txn) (steps : List Step) (next : Course) → AllGo p steps → AllTo p next → AllTo p (must_each_course steps next)
unfolding must_each_course
musts_to p [] next here later = later
musts_to p (step ∷ steps) next here later = must_to p step (must_each_course steps next) here.0 (musts_to p steps next here.1 later)

operation_to : (p : Txn) (step : Step) (done failed : Course) → goes_to p step ≡ true → AllTo p done → AllTo p failed → AllTo p (operation_course step done failed)
unfolding operation_course AllTo
operation_to p step done failed here on off = (here, λ reply. go (is_refusal reply)) where
  go : (refused : Bool) → AllTo p (cond refused failed done)
  go true = off
  go false = on

act_to : (p t : Txn) (act : Act) (done failed : Course) → AllTo p done → AllTo p failed → AllTo p (act_course t act done failed)
unfolding act_course goes_to
act_to p t (Act'.Read x) done failed on off = operation_to p (Read t x) done failed refl on off
act_to p t (Act'.Write x v) done failed on off = operation_to p (Write t x v) done failed refl on off
act_to p t (Act'.Add x d) done failed on off = operation_to p (Add t x d) done failed refl on off
act_to p t Act'.GiveUp done failed on off = off

acts_to : (p t : Txn) (acts : List Act) (done : Course) (failed : Txn → Course) → AllTo p done → AllTo p (failed t) → AllTo p (acts_course (acts_of t acts) done failed)
unfolding acts_course acts_of
acts_to p t [] done failed on off = on
acts_to p t (act ∷ acts) done failed on off = act_to p t act (acts_course (acts_of t acts) done failed) (failed t) (acts_to p t acts done failed on off) off

commit_to : (p t : Txn) (committed aborted : Course) → AllTo p committed → AllTo p aborted → AllTo p (commit_course t committed aborted)
unfolding commit_course by_commit goes_to AllTo
commit_to p t committed aborted on off = (refl, λ reply. go reply) where
  go : (reply : Reply) → AllTo p (by_commit t reply committed aborted)
  go Reply'.Committed = on
  go (Reply'.Refused refusal) = tt
  go Reply'.Aborted = off
  go Reply'.Done = off
  go (Reply'.Value v) = off

child_to : (p : Txn) (child : Part) (next : Course) → AllTo p next → AllTo p (child_course p child next)
unfolding child_course goes_to
child_to p child next later =
    musts_to p (Initiate child.name (Some p) ∷ Permit p child.name All all_operations ∷ Begin child.name ∷ []) _ (refl, (refl, (refl, tt)))
    (acts_to p child.name child.acts.items _ (λ u. must_course (Abort u) next)
    (musts_to p (Complete child.name ∷ Delegate child.name p All ∷ []) (commit_course child.name next next) (refl, (eq-eqb p.0 p.0 refl, tt)) (commit_to p child.name next next later later))
    (must_to p (Abort child.name) next refl later))

children_to : (p : Txn) (children : List Part) (next : Course) → AllTo p next → AllTo p (children_course p children next)
unfolding children_course
children_to p [] next later = later
children_to p (child ∷ children) next later = child_to p child (children_course p children next) (children_to p children next later)

nested_to : (p : Part) (children : List Part) → AllTo p.name (nested_course p children)
unfolding nested_course starts give_up last_commit goes_to AllTo
nested_to p children =
    musts_to p.name (starts p.name) _ (refl, (refl, tt))
    (acts_to p.name p.name p.acts.items _ give_up
    (children_to p.name children (must_course (Complete p.name) (last_commit p.name)) (must_to p.name (Complete p.name) (last_commit p.name) refl (commit_to p.name p.name (ends ModelEnd'.Committed) (ends ModelEnd'.Aborted) tt tt)))
    (must_to p.name (Abort p.name) (ends ModelEnd'.Aborted) refl tt))

-- and so does each call of a run
run_to : (p : Txn) (course : Course) (old new : List Entry) (result : Result ModelEnd Fault) → AllTo p course → IsRun course old new result → list_all (λ (entry : Entry). goes_to p entry.0) old ≡ true → list_all (λ (entry : Entry). goes_to p entry.0) new ≡ true
unfolding AllTo IsRun
run_to p (ends end) old new result all run before = subst (λ (some : List Entry). list_all (λ (entry : Entry). goes_to p entry.0) some ≡ true) (sym run.0) before
run_to p (asks step next) old new result all (inl cut) before = subst (λ (some : List Entry). list_all (λ (entry : Entry). goes_to p entry.0) some ≡ true) (sym cut.0) before
run_to p (asks step next) old new result all (inr more) before = run_to p (next more.0) ((step, more.0) ∷ old) new result (all.1 more.0) more.1 (and_from _ _ all.0 before)

-- a delegation that takes effect is not one to oneself
keeps_own : (opening : Opening) (p : Txn) (steps : List Step) (step : Step) (reply : Reply) → answer opening steps step ≡ Answer reply → goes_to p step ≡ true → takes_effect step reply ≡ true → KeepsOf p step
unfolding goes_to
keeps_own opening p steps step reply legal goes effect giver taker obs is =
    let to : eqb taker.0 p.0 ≡ true = subst (λ (s : Step). goes_to p s ≡ true) is goes in
    let apart : eqb giver.0 taker.0 ≡ false = (delegate_live opening steps giver taker obs reply (subst (λ (s : Step). answer opening steps s ≡ Answer reply) is legal) (subst (λ (s : Step). takes_effect s reply ≡ true) is effect)).0 in
    subst (λ (n : ℕ). eqb giver.0 n ≡ false) (eqb-true taker.0 p.0 to) apart

call_keeps : (opening : Opening) (p : Txn) (call : Entry) (older : List Entry) (n : ℕ) → answer opening (applied older) call.0 ≡ Answer call.1 → goes_to p call.0 ≡ true
    → responsible (applied older) n ≡ Some p.0 → responsible (applied (call ∷ older)) n ≡ Some p.0
call_keeps opening p call older n legal goes is = go (takes_effect call.0 call.1) refl where
  go : (effect : Bool) → takes_effect call.0 call.1 ≡ effect → responsible (applied (call ∷ older)) n ≡ Some p.0
  go true e = rw (applied_with_effect call older e) (kept_by (applied older) call.0 n p (keeps_own opening p (applied older) call.0 call.1 legal goes e) is)
  go false e = rw (applied_without_effect call older e) is

kept_from : (opening : Opening) (u p : Txn) (old calls new : List Entry) → IsLegal opening new → IsAmid (is_anothers p) old calls new → list_all (λ (entry : Entry). goes_to p entry.0) calls ≡ true
    → (k : ℕ) → k < length calls → slice_index_or calls k (Delegate u p All, Reply'.Done) ≡ (Delegate u p All, Reply'.Done) → TakesAll u p All new
unfolding IsAmid
kept_from opening u p old [] new legal amid all k within is = absurd (omega arith)
kept_from opening u p old (call ∷ calls) new legal amid all zero within is =
    let only : OnlyOthers (is_anothers p) ((Delegate u p All, Reply'.Done) ∷ amid.0) new = subst (λ (entry : Entry). OnlyOthers (is_anothers p) (entry ∷ amid.0) new) is amid.1 in
    record {
      newer = only.0;
      older = amid.0;
      split = only.1;
      takes = λ n own. since p ((Delegate u p All, Reply'.Done) ∷ amid.0) new n only (all_handed amid.0 u p n own);
    }
kept_from opening u p old (call ∷ calls) new legal amid all (suc k) within is =
    let only = amid.1 in
    let parts = and_parts (goes_to p call.0) _ all in
    let here : IsLegal opening (call ∷ amid.0) = legal_rest opening only.0 (call ∷ amid.0) (rw only.1 at legal) in
    let deeper = kept_from opening u p old calls amid.0 (legal_rest opening (call ∷ []) amid.0 here) amid.2 parts.1 k (omega arith) is in
    record {
      newer = only.0 ++ call ∷ deeper.newer;
      older = deeper.older;
      split = only.1 ∙ ap (λ (some : List Entry). only.0 ++ call ∷ some) deeper.split ∙ sym (append_assoc only.0 (call ∷ deeper.newer) ((Delegate u p All, Reply'.Done) ∷ deeper.older));
      takes = λ n own. since p (call ∷ amid.0) new n only (call_keeps opening p call amid.0 n (legal_at opening call amid.0 new legal (only.0, only.1)) parts.0 (deeper.takes n own));
    }

pub nested_keeps : (opening : Opening) (p : Part) (children : List Part) (old calls new : List Entry) (result : Result ModelEnd Fault) (child : Txn) → IsLegal opening new
    → IsRun (nested_course p children) [] calls result → IsAmid (is_anothers p.name) old calls new → Contains calls (Delegate child p.name All, Reply'.Done) → TakesAll child p.name All new
nested_keeps opening p children old calls new result child legal run amid called =
    kept_from opening child p.name old calls new legal amid (run_to p.name (nested_course p children) [] calls result (nested_to p children) run refl) called.0 called.1 called.2
