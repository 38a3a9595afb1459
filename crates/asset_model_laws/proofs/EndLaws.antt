-- How transactions end and stay ended, in histories.
use Rattle.std.proofs.Common.{◌≡◌, ◌⊎◌, ℕ, eqb, eq-eqb, Bool, true, false, ◌&&◌, List, [], ◌∷◌, ◌++◌, refl, sym, ◌∙◌, None, Some, inl, inr}
use Rattle.std.specs.Prelude.{Option}
use Rattle.std.specs.List.{list_any}
use Rattle.std.proofs.lemmas.List.Folds.{list_any-append}
use Rattle.std.proofs.lemmas.Bool.{or_left, or_right, and_from}
use Rattle.asset_names.specs.declared.names.Txn.{Txn}
use Rattle.asset_names.specs.declared.statuses.End.{End}
use Rattle.asset_names.specs.declared.statuses.End.TheVariants as End'
use Rattle.asset_names.specs.declared.statuses.Status.{Status}
use Rattle.asset_names.specs.declared.statuses.Status.TheVariants as Status'
use Rattle.asset_names.specs.declared.steps.Kind.TheVariants.{Gc}
use Rattle.asset_names.specs.declared.steps.Step.{Step}
use Rattle.asset_names.specs.declared.steps.Step.TheVariants.{Depend, Commit, Abort}
use Rattle.asset_names.specs.declared.replies.Reply.TheVariants as Reply'
use Rattle.asset_names.specs.declared.replies.Outcome.TheVariants.{Answer}
use Rattle.asset_names.specs.declared.replies.Reply.{Reply}
use Rattle.asset_names.specs.declared.replies.Refusal.TheVariants as Refusal'
use Rattle.asset_names.specs.declared.replies.Outcome.{Outcome}
use Rattle.asset_names.specs.Arrows.{has_arrow, among, lists}
use Rattle.asset_names.specs.Paths.{both_ways, same_kind}
use Rattle.asset_names.specs.Steps.{Opening, Entry, takes_effect, applied, initiated, initiated_by, begun, completed}
use Rattle.asset_names.specs.Endings.{dependencies, dependency_by, class_arrows, end_of, ended_by, live, same_class, status, status_of, is_live_status}
use Rattle.asset_names.specs.Answers.{IsLegal, answer, is_unknown, is_committed, unknown, too_late, rules_for, first_refusal, may_commit, commit_outcome, unrefused, outcome_unless}
use Rattle.asset_names.proofs.AppliedLemmas.{applied_with_effect, applied_without_effect}
use Rattle.asset_names.proofs.DependLemmas.{has_append, has_both, dependencies_more}
use Rattle.asset_names.proofs.EndLemmas.{live_parts, commits_itself, aborts_itself, commit_ends, abort_ends}
use Rattle.asset_names.proofs.PermitLemmas.{linked_has, has_among}
use Rattle.asset_names.proofs.LegalLemmas.{depend_live}
use Rattle.asset_names.proofs.LiveLemmas.{end_same, EndsNobody, live_by_status}
use Rattle.asset_laws.proofs.ClassLemmas.{never_split}
use Rattle.asset_laws.proofs.GroupLemmas.{legal_rest}

-- what holds of the steps that took effect and is kept by each further step holds later
pub applied_keeps : (P : List Step → Type 0) → ((step : Step) (steps : List Step) → P steps → P (step ∷ steps)) → (newer older : List Entry) → P (applied older) → P (applied (newer ++ older))
applied_keeps P keeps [] older here = here
applied_keeps P keeps (entry ∷ newer) older here = go (takes_effect entry.0 entry.1) refl (applied_keeps P keeps newer older here) where
  go : (effect : Bool) → takes_effect entry.0 entry.1 ≡ effect → P (applied (newer ++ older)) → P (applied (entry ∷ (newer ++ older)))
  go true e before = rw (applied_with_effect entry (newer ++ older) e) (keeps entry.0 (applied (newer ++ older)) before)
  go false e before = rw (applied_without_effect entry (newer ++ older) e) before

one_end_stays : (step : Step) (steps : List Step) (t : ℕ) (end : End) → end_of steps t ≡ Some end → end_of (step ∷ steps) t ≡ Some end
unfolding end_of
one_end_stays step steps t end is = rw is refl

pub end_later : (newer older : List Entry) (t : ℕ) (end : End) → end_of (applied older) t ≡ Some end → end_of (applied (newer ++ older)) t ≡ Some end
end_later newer older t end = applied_keeps (λ steps. end_of steps t ≡ Some end) (λ step steps here. one_end_stays step steps t end here) newer older

-- two whom a group commit joins, and who ended in one way if they ended
pub record Paired (a b : ℕ) (steps : List Step) : Type 0 where
  pub arrow : has_arrow (dependencies Gc steps) a b ≡ true
  pub first : lists (initiated steps) a ≡ true
  pub second : lists (initiated steps) b ≡ true
  pub alike : end_of steps a ≡ end_of steps b

dependency_later : (step : Step) (steps : List Step) (a b : ℕ) → has_arrow (dependencies Gc steps) a b ≡ true → has_arrow (dependencies Gc (step ∷ steps)) a b ≡ true
unfolding dependencies
dependency_later step steps a b here = has_append (dependency_by Gc step) (dependencies Gc steps) a b ∙ or_right (has_arrow (dependency_by Gc step) a b) _ here

initiated_later : (step : Step) (steps : List Step) (n : ℕ) → lists (initiated steps) n ≡ true → lists (initiated (step ∷ steps)) n ≡ true
unfolding lists initiated
initiated_later step steps n here = list_any-append (λ (m : ℕ). eqb m n) (initiated_by step) (initiated steps) ∙ or_right (list_any (λ (m : ℕ). eqb m n) (initiated_by step)) _ here

live_unless : (steps : List Step) (n : ℕ) → lists (initiated steps) n ≡ true → end_of steps n ≡ None → live steps n ≡ true
unfolding live
live_unless steps n known none = rw (known, none) refl

paired_class : (a b : ℕ) (steps : List Step) → live steps a ≡ true → live steps b ≡ true → has_arrow (dependencies Gc steps) a b ≡ true → same_class steps a b ≡ true
unfolding same_class class_arrows
paired_class a b steps one other arrow =
    linked_has (among (live steps) (both_ways (dependencies Gc steps))) a b
    (has_among (live steps) (both_ways (dependencies Gc steps)) a b ∙ and_from _ _ (and_from _ _ one other) (has_both (dependencies Gc steps) a b ∙ or_left _ _ arrow))

pub paired_later : (a b : ℕ) (step : Step) (steps : List Step) → Paired a b steps → Paired a b (step ∷ steps)
paired_later a b step steps pair = record {
  arrow = dependency_later step steps a b pair.arrow;
  first = initiated_later step steps a pair.first;
  second = initiated_later step steps b pair.second;
  alike = by (end_of steps a) refl;
} where
  by : (end : Option End) → end_of steps a ≡ end → end_of (step ∷ steps) a ≡ end_of (step ∷ steps) b
  by (Some end) is = one_end_stays step steps a end is ∙ sym (one_end_stays step steps b end (sym pair.alike ∙ is))
  by None is =
      let one = live_unless steps a pair.first is in
      let other = live_unless steps b pair.second (sym pair.alike ∙ is) in
      never_split step steps a b one other (paired_class a b steps one other pair.arrow)

quiet_depend : (a b : Txn) → EndsNobody (Depend Gc a b)
unfolding EndsNobody ended_by
quiet_depend a b = λ l o n. refl

paired_now : (opening : Opening) (steps : List Step) (a b : Txn) → answer opening steps (Depend Gc a b) ≡ Answer Reply'.Done → Paired a.0 b.0 (Depend Gc a b ∷ steps)
unfolding takes_effect same_kind
paired_now opening steps a b is =
    let both = depend_live opening steps Gc a b Reply'.Done is refl in
    record {
      arrow = dependencies_more Gc a b steps Gc a.0 b.0 ∙ or_left _ _ (own_arrow a.0 b.0);
      first = initiated_later (Depend Gc a b) steps a.0 (live_initiated steps a.0 both.1);
      second = initiated_later (Depend Gc a b) steps b.0 (live_initiated steps b.0 both.2);
      alike = end_same (Depend Gc a b) steps a.0 (quiet_depend a b) ∙ (live_parts steps a.0 both.1).1 ∙ sym (end_same (Depend Gc a b) steps b.0 (quiet_depend a b) ∙ (live_parts steps b.0 both.2).1);
    } where
      own_arrow : (u v : ℕ) → (same_kind Gc Gc && (eqb u u && eqb v v)) ≡ true
      own_arrow u v = and_from _ _ refl (and_from _ _ (eq-eqb u u refl) (eq-eqb v v refl))

      live_initiated : (steps : List Step) (n : ℕ) → live steps n ≡ true → lists (initiated steps) n ≡ true
      live_initiated steps n alive = (live_parts steps n alive).0

pub class_alike : (opening : Opening) (newer older : List Entry) (a b : Txn) → IsLegal opening (newer ++ (Depend Gc a b, Reply'.Done) ∷ older)
    → end_of (applied (newer ++ (Depend Gc a b, Reply'.Done) ∷ older)) a.0 ≡ end_of (applied (newer ++ (Depend Gc a b, Reply'.Done) ∷ older)) b.0
unfolding IsLegal takes_effect
class_alike opening newer older a b legal =
    let here = (legal_rest opening newer ((Depend Gc a b, Reply'.Done) ∷ older) legal).0 in
    let now : Paired a.0 b.0 (applied ((Depend Gc a b, Reply'.Done) ∷ older)) = rw (applied_with_effect (Depend Gc a b, Reply'.Done) older refl) (paired_now opening (applied older) a b here) in
    (applied_keeps (Paired a.0 b.0) (λ step steps pair. paired_later a.0 b.0 step steps pair) newer ((Depend Gc a b, Reply'.Done) ∷ older) now).alike

-- what a commit and an abort are answered, by the status
committed_before : (steps : List Step) (t : ℕ) → status steps t ≡ Status'.Committed → end_of steps t ≡ Some End'.Committed
unfolding status status_of
committed_before steps t = go (lists (initiated steps) t) (lists (begun steps) t) (lists (completed steps) t) (end_of steps t) where
  go : (i b c : Bool) (e : Option End) → status_of i b c e ≡ Status'.Committed → e ≡ Some End'.Committed
  go false b c e h = cc
  go true b c (Some End'.Committed) h = refl
  go true b c (Some End'.Aborted) h = cc
  go true b true None h = cc
  go true true false None h = cc
  go true false false None h = cc

aborted_before : (steps : List Step) (t : ℕ) → status steps t ≡ Status'.Aborted → end_of steps t ≡ Some End'.Aborted
unfolding status status_of
aborted_before steps t = go (lists (initiated steps) t) (lists (begun steps) t) (lists (completed steps) t) (end_of steps t) where
  go : (i b c : Bool) (e : Option End) → status_of i b c e ≡ Status'.Aborted → e ≡ Some End'.Aborted
  go false b c e h = cc
  go true b c (Some End'.Committed) h = cc
  go true b c (Some End'.Aborted) h = refl
  go true b true None h = cc
  go true true false None h = cc
  go true false false None h = cc

unfoldable pub commit_told : Txn → Status → Bool → Outcome
commit_told t status ready = outcome_unless (first_refusal ((is_unknown status, Refusal'.Unknown t) ∷ [])) (commit_outcome status ready)

unfoldable pub abort_told : Txn → Status → Outcome
abort_told t status = outcome_unless (first_refusal ((is_unknown status, Refusal'.Unknown t) ∷ (is_committed status, Refusal'.TooLate t) ∷ [])) (Answer Reply'.Aborted)

commit_committed : (t : Txn) (s : Status) (ready : Bool) → commit_told t s ready ≡ Answer Reply'.Committed → (s ≡ Status'.Committed) ⊎ (is_live_status s ≡ true)
unfolding commit_told outcome_unless first_refusal is_unknown commit_outcome is_live_status
commit_committed t Status'.Unknown ready h = cc
commit_committed t Status'.Initiated ready h = inr refl
commit_committed t Status'.Running ready h = inr refl
commit_committed t Status'.Completed ready h = inr refl
commit_committed t Status'.Committed ready h = inl refl
commit_committed t Status'.Aborted ready h = cc

commit_aborted : (t : Txn) (s : Status) (ready : Bool) → commit_told t s ready ≡ Answer Reply'.Aborted → s ≡ Status'.Aborted
unfolding commit_told outcome_unless first_refusal is_unknown commit_outcome
commit_aborted t Status'.Unknown ready h = cc
commit_aborted t Status'.Initiated true h = cc
commit_aborted t Status'.Initiated false h = cc
commit_aborted t Status'.Running true h = cc
commit_aborted t Status'.Running false h = cc
commit_aborted t Status'.Completed true h = cc
commit_aborted t Status'.Completed false h = cc
commit_aborted t Status'.Committed ready h = cc
commit_aborted t Status'.Aborted ready h = refl

abort_aborted : (t : Txn) (s : Status) → abort_told t s ≡ Answer Reply'.Aborted → (s ≡ Status'.Aborted) ⊎ (is_live_status s ≡ true)
unfolding abort_told outcome_unless first_refusal is_unknown is_committed is_live_status
abort_aborted t Status'.Unknown h = cc
abort_aborted t Status'.Initiated h = inr refl
abort_aborted t Status'.Running h = inr refl
abort_aborted t Status'.Completed h = inr refl
abort_aborted t Status'.Committed h = cc
abort_aborted t Status'.Aborted h = inl refl

pub commit_answer : (opening : Opening) (steps : List Step) (t : Txn) (reply : Reply) → answer opening steps (Commit t) ≡ Answer reply → commit_told t (status steps t.0) (may_commit steps t.0) ≡ Answer reply
unfolding commit_told answer rules_for unknown unrefused
commit_answer opening steps t reply is = is

pub abort_answer : (opening : Opening) (steps : List Step) (t : Txn) (reply : Reply) → answer opening steps (Abort t) ≡ Answer reply → abort_told t (status steps t.0) ≡ Answer reply
unfolding abort_told answer rules_for unknown too_late unrefused
abort_answer opening steps t reply is = is

committed_now : (opening : Opening) (steps : List Step) (t : Txn) → answer opening steps (Commit t) ≡ Answer Reply'.Committed → end_of (Commit t ∷ steps) t.0 ≡ Some End'.Committed
committed_now opening steps t is = elim (commit_committed t (status steps t.0) (may_commit steps t.0) (commit_answer opening steps t Reply'.Committed is)) [
  | inl before ↦ one_end_stays (Commit t) steps t.0 End'.Committed (committed_before steps t.0 before)
  | inr alive ↦ commit_ends t steps t.0 ∙ rw (commits_itself steps t.0 (live_by_status steps t.0 ∙ alive)) refl
]

aborted_now : (opening : Opening) (steps : List Step) (t : Txn) → answer opening steps (Abort t) ≡ Answer Reply'.Aborted → end_of (Abort t ∷ steps) t.0 ≡ Some End'.Aborted
aborted_now opening steps t is = elim (abort_aborted t (status steps t.0) (abort_answer opening steps t Reply'.Aborted is)) [
  | inl before ↦ one_end_stays (Abort t) steps t.0 End'.Aborted (aborted_before steps t.0 before)
  | inr alive ↦ abort_ends t steps t.0 ∙ rw (aborts_itself steps t.0 (live_by_status steps t.0 ∙ alive)) refl
]

pub commit_committed_end : (opening : Opening) (newer older : List Entry) (t : Txn) → IsLegal opening (newer ++ (Commit t, Reply'.Committed) ∷ older) → end_of (applied (newer ++ (Commit t, Reply'.Committed) ∷ older)) t.0 ≡ Some End'.Committed
unfolding IsLegal takes_effect
commit_committed_end opening newer older t legal =
    let here = (legal_rest opening newer ((Commit t, Reply'.Committed) ∷ older) legal).0 in
    end_later newer ((Commit t, Reply'.Committed) ∷ older) t.0 End'.Committed (rw (applied_with_effect (Commit t, Reply'.Committed) older refl) (committed_now opening (applied older) t here))

pub commit_aborted_end : (opening : Opening) (newer older : List Entry) (t : Txn) → IsLegal opening (newer ++ (Commit t, Reply'.Aborted) ∷ older) → end_of (applied (newer ++ (Commit t, Reply'.Aborted) ∷ older)) t.0 ≡ Some End'.Aborted
unfolding IsLegal takes_effect
commit_aborted_end opening newer older t legal =
    let here = (legal_rest opening newer ((Commit t, Reply'.Aborted) ∷ older) legal).0 in
    end_later newer ((Commit t, Reply'.Aborted) ∷ older) t.0 End'.Aborted
    (rw (applied_without_effect (Commit t, Reply'.Aborted) older refl) (aborted_before (applied older) t.0 (commit_aborted t (status (applied older) t.0) (may_commit (applied older) t.0) (commit_answer opening (applied older) t Reply'.Aborted here))))

pub abort_aborted_end : (opening : Opening) (newer older : List Entry) (t : Txn) → IsLegal opening (newer ++ (Abort t, Reply'.Aborted) ∷ older) → end_of (applied (newer ++ (Abort t, Reply'.Aborted) ∷ older)) t.0 ≡ Some End'.Aborted
unfolding IsLegal takes_effect
abort_aborted_end opening newer older t legal =
    let here = (legal_rest opening newer ((Abort t, Reply'.Aborted) ∷ older) legal).0 in
    end_later newer ((Abort t, Reply'.Aborted) ∷ older) t.0 End'.Aborted (rw (applied_with_effect (Abort t, Reply'.Aborted) older refl) (aborted_now opening (applied older) t here))
