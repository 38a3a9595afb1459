-- The entries of transactions that are kept: they leave a legal history.
use Rattle.std.proofs.Common.{◌≡◌, ℕ, Bool, true, false, cond, List, [], ◌∷◌, refl, sym, ◌∙◌, inl, inr, None, Some}
use Rattle.std.specs.Prelude.{Option}
use Rattle.std.specs.Option.{option_or}
use Rattle.std.proofs.lemmas.Bool.{false≢true}
use Rattle.asset_names.specs.declared.statuses.End.{End}
use Rattle.asset_names.specs.declared.steps.Step.{Step}
use Rattle.asset_names.specs.declared.replies.Outcome.TheVariants.{Answer}
use Rattle.asset_names.specs.Arrows.{has_arrow}
use Rattle.asset_names.specs.Steps.{Opening, Entry, takes_effect, applied, initiated, initiated_by, begun, begun_by, completed, completed_by}
use Rattle.asset_names.specs.Endings.{end_of, dependencies}
use Rattle.asset_names.specs.Groups.{actor, partner, operates_on, was_committed, kept}
use Rattle.asset_names.specs.Operations.{operations, permits, openers}
use Rattle.asset_names.specs.Answers.{answer, IsLegal}
use Rattle.asset_names.proofs.LegalLemmas.{legal_orderly}
use Rattle.asset_laws.proofs.AlikeLemmas.{IsAlike, owned}
use Rattle.asset_laws.proofs.AnswersAlike.{Uncommitted, OpensTo, answer_alike}
use Rattle.asset_laws.proofs.KeptSteps.{kept_steps, Respects, one_more, passed_over, stranger_adds, kept_ends, stranger_ends}
use Rattle.asset_laws.proofs.KeptOperations.{kept_dependencies, stranger_dependencies, more_dependencies_keep, kept_operations, stranger_operations, kept_permits, stranger_permits, more_permits_keep, kept_openers, stranger_openers}
use Rattle.asset_laws.proofs.OpenLemmas.{OpenedBy, respects_handed, openers_are}

-- ---- steps

-- no steps say the same of everybody
alike_none : (keep : ℕ → Bool) → IsAlike keep [] []
unfolding initiated begun completed end_of dependencies operations permits openers owned has_arrow
alike_none keep = record {
  initiated_alike = λ n stays. refl;
  begun_alike = λ n stays. refl;
  completed_alike = λ n stays. refl;
  ends_alike = λ n stays. refl;
  sources_alike = λ kind u v stays. refl;
  dependents_alike = λ kind u v stays. refl;
  dependencies_keep = λ kind u v h. absurd (false≢true h);
  operations_alike = refl;
  permits_alike = λ x op u v stays. refl;
  permits_keep = λ x op u v h. absurd (false≢true h);
  openers_alike = λ x op n stays. refl;
}

-- one more step of a kept transaction, and one of another
alike_kept : (keep : ℕ → Bool) (some all : List Step) → IsAlike keep some all → (step : Step) → keep (actor step).0 ≡ true → keep (partner step).0 ≡ true → IsAlike keep (step ∷ some) (step ∷ all)
unfolding initiated begun completed
alike_kept keep some all alike step one other = record {
  initiated_alike = λ n stays. one_more (initiated_by step) (initiated some) (initiated all) n (alike.initiated_alike n stays);
  begun_alike = λ n stays. one_more (begun_by step) (begun some) (begun all) n (alike.begun_alike n stays);
  completed_alike = λ n stays. one_more (completed_by step) (completed some) (completed all) n (alike.completed_alike n stays);
  ends_alike = kept_ends keep some all alike step one;
  sources_alike = λ kind u v stays. kept_dependencies some all step kind u v (alike.sources_alike kind u v stays);
  dependents_alike = λ kind u v stays. kept_dependencies some all step kind u v (alike.dependents_alike kind u v stays);
  dependencies_keep = λ kind. more_dependencies_keep keep all step (one ∙ sym other) kind (alike.dependencies_keep kind);
  operations_alike = kept_operations keep some all step one other alike.operations_alike;
  permits_alike = kept_permits keep some all alike step one;
  permits_keep = λ x op. more_permits_keep keep all step (one ∙ sym other) x op (alike.permits_keep x op);
  openers_alike = kept_openers keep some all alike step one;
}

alike_stranger : (keep : ℕ → Bool) (some all : List Step) → IsAlike keep some all → (step : Step) → keep (actor step).0 ≡ false → keep (partner step).0 ≡ false → IsAlike keep some (step ∷ all)
unfolding initiated begun completed
alike_stranger keep some all alike step one other = record {
  initiated_alike = λ n stays. alike.initiated_alike n stays ∙ sym (passed_over (initiated_by step) (initiated all) n (stranger_adds keep step n one stays).0);
  begun_alike = λ n stays. alike.begun_alike n stays ∙ sym (passed_over (begun_by step) (begun all) n (stranger_adds keep step n one stays).1);
  completed_alike = λ n stays. alike.completed_alike n stays ∙ sym (passed_over (completed_by step) (completed all) n (stranger_adds keep step n one stays).2);
  ends_alike = λ n stays. alike.ends_alike n stays ∙ sym (stranger_ends keep some all alike step one n stays);
  sources_alike = λ kind u v stays. alike.sources_alike kind u v stays ∙ sym (stranger_dependencies keep all step one other kind u v (inl stays));
  dependents_alike = λ kind u v stays. alike.dependents_alike kind u v stays ∙ sym (stranger_dependencies keep all step one other kind u v (inr stays));
  dependencies_keep = λ kind. more_dependencies_keep keep all step (one ∙ sym other) kind (alike.dependencies_keep kind);
  operations_alike = stranger_operations keep some all step one other alike.operations_alike;
  permits_alike = λ x op u v stays. alike.permits_alike x op u v stays ∙ sym (stranger_permits keep all step one other x op u v stays);
  permits_keep = λ x op. more_permits_keep keep all step (one ∙ sym other) x op (alike.permits_keep x op);
  openers_alike = λ x op n stays. alike.openers_alike x op n stays ∙ sym (stranger_openers keep all step one other x op n stays);
}

-- the steps of kept transactions say the same of them as all steps do
pub kept_alike : (keep : ℕ → Bool) (steps : List Step) → Respects keep steps → IsAlike keep (kept_steps keep steps) steps
unfolding kept_steps Respects
kept_alike keep [] respects = alike_none keep
kept_alike keep (step ∷ older) respects = go (keep (actor step).0) refl (kept_alike keep older respects.1) where
  go : (stays : Bool) → keep (actor step).0 ≡ stays → IsAlike keep (kept_steps keep older) older → IsAlike keep (cond stays (step ∷ kept_steps keep older) (kept_steps keep older)) (step ∷ older)
  go true e alike = alike_kept keep (kept_steps keep older) older alike step e (sym respects.0 ∙ e)
  go false e alike = alike_stranger keep (kept_steps keep older) older alike step e (sym respects.0 ∙ e)

-- ---- entries

-- where an entry operates on an object, the givers of older open permits on it are kept as the transaction that asks for it
abbrev pub OpensKept : (ℕ → Bool) → Entry → List Entry → Type 0
OpensKept keep entry older = takes_effect entry.0 entry.1 ≡ true → (x : ℕ) → operates_on entry.0 x ≡ true → OpenedBy (λ a. keep a ≡ keep (actor entry.0).0) x (applied older)

-- each entry acts on kept transactions alone, or on none, and meets kept ones alone, or none
unfoldable pub RespectsEntries : (ℕ → Bool) → List Entry → Type 0
RespectsEntries keep [] = Unit {0}
RespectsEntries keep (entry ∷ older) = ((keep (actor entry.0).0 ≡ keep (partner entry.0).0) × OpensKept keep entry older) × RespectsEntries keep older

pub respects_applied : (keep : ℕ → Bool) (entries : List Entry) → RespectsEntries keep entries → Respects keep (applied entries)
unfolding RespectsEntries Respects applied
respects_applied keep [] respects = respects
respects_applied keep (entry ∷ older) respects = go (takes_effect entry.0 entry.1) (respects_applied keep older respects.1) where
  go : (effect : Bool) → Respects keep (applied older) → Respects keep (cond effect (entry.0 ∷ applied older) (applied older))
  go true rest = (respects.0.0, rest)
  go false rest = rest

-- the steps that took effect in what is kept are the kept ones of those that took effect
pub kept_applied : (keep : ℕ → Bool) (entries : List Entry) → applied (kept keep entries) ≡ kept_steps keep (applied entries)
unfolding kept kept_steps applied
kept_applied keep [] = refl
kept_applied keep (entry ∷ older) = go (keep (actor entry.0).0) refl (takes_effect entry.0 entry.1) refl (kept_applied keep older) where
  Rest : Type 0
  Rest = applied (kept keep older) ≡ kept_steps keep (applied older)

  go : (stays : Bool) → keep (actor entry.0).0 ≡ stays → (effect : Bool) → takes_effect entry.0 entry.1 ≡ effect → Rest
      → applied (cond stays (entry ∷ kept keep older) (kept keep older)) ≡ kept_steps keep (cond effect (entry.0 ∷ applied older) (applied older))
  go true e true f rest = rw (f, e, rest) refl
  go true e false f rest = rw (f) rest
  go false e true f rest = rw (e) rest
  go false e false f rest = rest

-- who has committed stays so
committed_before : (keep : ℕ → Bool) (step : Step) (steps : List Step) → Uncommitted keep (step ∷ steps) → Uncommitted keep steps
unfolding end_of was_committed
committed_before keep step steps uncommitted n gone = go (end_of steps n) _ (uncommitted n gone) where
  go : (end later : Option End) → was_committed (option_or end later) ≡ false → was_committed end ≡ false
  go None later h = refl
  go (Some end) later h = h

pub uncommitted_before : (keep : ℕ → Bool) (entry : Entry) (older : List Entry) → Uncommitted keep (applied (entry ∷ older)) → Uncommitted keep (applied older)
unfolding applied
uncommitted_before keep entry older = go (takes_effect entry.0 entry.1) where
  go : (effect : Bool) → Uncommitted keep (cond effect (entry.0 ∷ applied older) (applied older)) → Uncommitted keep (applied older)
  go true h = committed_before keep entry.0 (applied older) h
  go false h = h

-- where an entry operates on an object, its openers are kept as the transaction that asks for it
pub opens_to : (keep : ℕ → Bool) (entry : Entry) (older : List Entry) → RespectsEntries keep (entry ∷ older) → OpensTo keep entry.0 entry.1 (applied older)
unfolding RespectsEntries
opens_to keep entry older respects effect x a op on listed =
    openers_are (λ n. keep n ≡ keep (actor entry.0).0) x op (applied older) (respects_handed keep (keep (actor entry.0).0) (applied older) (respects_applied keep older respects.1)) (respects.0.1 effect x on) a listed

-- a kept entry is answered alike after what is kept of the older ones
pub kept_answered : (opening : Opening) (keep : ℕ → Bool) (entry : Entry) (older : List Entry) → IsLegal opening (entry ∷ older) → RespectsEntries keep (entry ∷ older) → Uncommitted keep (applied (entry ∷ older))
    → keep (actor entry.0).0 ≡ true → answer opening (applied (kept keep older)) entry.0 ≡ Answer entry.1
unfolding IsLegal RespectsEntries
kept_answered opening keep entry older legal respects uncommitted stays =
    rw (kept_applied keep older)
    (answer_alike keep (kept_steps keep (applied older)) (applied older) (kept_alike keep (applied older) (respects_applied keep older respects.1))
    (uncommitted_before keep entry older uncommitted) (legal_orderly opening older legal.1) opening entry.0 entry.1 stays (sym respects.0.0 ∙ stays) (opens_to keep entry older respects) legal.0)

-- what is kept of a legal history is legal
pub legal_kept : (opening : Opening) (keep : ℕ → Bool) (entries : List Entry) → IsLegal opening entries → RespectsEntries keep entries → Uncommitted keep (applied entries)
    → IsLegal opening (kept keep entries)
unfolding IsLegal RespectsEntries kept
legal_kept opening keep [] legal respects uncommitted = legal
legal_kept opening keep (entry ∷ older) legal respects uncommitted =
    go (keep (actor entry.0).0) refl (legal_kept opening keep older legal.1 respects.1 (uncommitted_before keep entry older uncommitted)) where
      go : (stays : Bool) → keep (actor entry.0).0 ≡ stays → IsLegal opening (kept keep older) → IsLegal opening (cond stays (entry ∷ kept keep older) (kept keep older))
      go true e rest = (kept_answered opening keep entry older legal respects uncommitted e, rest)
      go false e rest = rest
