-- The children of a nested transaction have handed over all to it, or have aborted.
use Rattle.std.proofs.Common.{◌≡◌, ◌<◌, ◌⊎◌, ℕ, zero, suc, Bool, true, false, List, [], ◌∷◌, length, refl, sym, ◌∙◌, ap, subst, Some, inl, inr, arith}
use Rattle.std.specs.Prelude.{Ok, Contains, slice_index_or}
use Rattle.asset_names.specs.declared.names.Txn.{Txn}
use Rattle.asset_names.specs.declared.sets.ObSet.{ObSet}
use Rattle.asset_names.specs.declared.sets.ObSet.TheVariants.{All}
use Rattle.asset_names.specs.declared.statuses.End.TheVariants as End'
use Rattle.asset_names.specs.declared.steps.Step.{Step}
use Rattle.asset_names.specs.declared.steps.Step.TheVariants.{Initiate, Begin, Complete, Permit, Delegate, Abort}
use Rattle.asset_names.specs.declared.replies.Reply.{Reply}
use Rattle.asset_names.specs.declared.replies.Reply.TheVariants as Reply'
use Rattle.asset_names.specs.Steps.{Opening, Entry, applied}
use Rattle.asset_names.specs.Endings.{end_of}
use Rattle.asset_names.specs.Answers.{IsLegal, answer, first_refusal, rules_for, unrefused}
use Rattle.asset_entries.specs.Committing.{committer}
use Rattle.asset_models.specs.declared.parts.Part.{Part}
use Rattle.asset_models.specs.declared.parts.ModelEnd.{ModelEnd}
use Rattle.asset_models.specs.declared.parts.ModelEnd.TheVariants as ModelEnd'
use Rattle.asset_models.specs.Courses.{Course, IsRun, is_refusal, must_course, must_each_course, starts, commit_course, acts_course, acts_of, all_operations, child_course, children_course, give_up, last_commit, nested_course}
use Rattle.asset_models.specs.Courses.Course.{ends}
use Rattle.asset_model_laws.specs.Amid.{IsAmid}
use Rattle.asset_model_laws.specs.Nested.{HandsOver, AllHandOver}
use Rattle.asset_model_laws.proofs.RunAmid.{IsRunAmid, whole}
use Rattle.asset_model_laws.proofs.OwnerLaws.{all_handed}
use Rattle.asset_model_laws.proofs.AmidLemmas.{Grows, grows_on, legal_at}
use Rattle.asset_model_laws.proofs.FinalLemmas.{is_final, ends_so, Onto, Answered, must_onto, musts_onto, acts_onto, commit_onto, aborted_so, abort_quiet, complete_quiet, starts_quiet, own_of, done_unless}
use Rattle.asset_model_laws.proofs.FinalLemmas.AllQuiet.{none_quiet, more_quiet}

-- a delegation that was not refused is done
pub done_reply : (opening : Opening) (u t : Txn) (obs : ObSet) (older : List Entry) (reply : Reply) (new : List Entry) → IsLegal opening new → Grows ((Delegate u t obs, reply) ∷ older) new → is_refusal reply ≡ false → reply ≡ Reply'.Done
unfolding answer unrefused
done_reply opening u t obs older reply new legal grows accepted = done_unless (first_refusal (rules_for opening (applied older) (Delegate u t obs))) reply (legal_at opening (Delegate u t obs, reply) older new legal grows) accepted

pub delegated : (opening : Opening) (u t : Txn) (obs : ObSet) (new : List Entry) → IsLegal opening new → Answered new (Delegate u t obs) → (older : List Entry) × Grows ((Delegate u t obs, Reply'.Done) ∷ older) new
delegated opening u t obs new legal told =
    (told.older, subst (λ (reply : Reply). Grows ((Delegate u t obs, reply) ∷ told.older) new) (done_reply opening u t obs told.older told.reply new legal told.grows told.accepted) told.grows)

hands_over : (opening : Opening) (u t : Txn) (new : List Entry) → IsLegal opening new → Answered new (Delegate u t All) → HandsOver u t new
hands_over opening u t new legal told =
    let here = delegated opening u t All new legal told in
    record { newer = here.1.0; older = here.0; split = here.1.1; all = λ n is. all_handed here.0 u t n is }

-- a call stands in the history
called_in : (test : Entry → Bool) (old calls new : List Entry) (call : Entry) → IsAmid test old calls new → (k : ℕ) → k < length calls → slice_index_or calls k call ≡ call → (older : List Entry) × Grows (call ∷ older) new
unfolding IsAmid
called_in test old [] new call amid k within is = absurd (omega arith)
called_in test old (first ∷ calls) new call amid zero within is = (amid.0, subst (λ (entry : Entry). Grows (entry ∷ amid.0) new) is (amid.1.0, amid.1.1))
called_in test old (first ∷ calls) new call amid (suc k) within is =
    let deeper = called_in test old calls amid.0 call amid.2 k (omega arith) is in
    (deeper.0, grows_on (call ∷ deeper.0) (first ∷ amid.0) new (first ∷ deeper.1.0, ap (λ (some : List Entry). first ∷ some) deeper.1.1) (amid.1.0, amid.1.1))

pub done_hands_over : (test : Entry → Bool) (old calls new : List Entry) (u t : Txn) → IsAmid test old calls new → Contains calls (Delegate u t All, Reply'.Done) → HandsOver u t new
done_hands_over test old calls new u t amid called =
    let here = called_in test old calls new (Delegate u t All, Reply'.Done) amid called.0 called.1 called.2 in
    record { newer = here.1.0; older = here.0; split = here.1.1; all = λ n is. all_handed here.0 u t n is }

-- the run goes on with the rest
record Goes (test : Entry → Bool) (rest : Course) (calls new : List Entry) (end : ModelEnd) : Type 0 where
  pub made : List Entry
  pub old : List Entry
  pub run : IsRunAmid test rest made old calls new (Ok end)

goes_on : {test : Entry → Bool} {done : List Txn} {rest : Course} {calls new : List Entry} {end : ModelEnd} → Onto test done rest calls new end → Goes test rest calls new end
goes_on onto = record { made = onto.made; old = onto.old; run = onto.run }

child_onto : (opening : Opening) (test : Entry → Bool) (t : Txn) (child : Part) (next : Course) (made old calls new : List Entry) (end : ModelEnd) → IsLegal opening new → is_final end ≡ true
    → IsRunAmid test (child_course t child next) made old calls new (Ok end)
    → Goes test next calls new end × (HandsOver child.name t new ⊎ (end_of (applied new) child.name.0 ≡ Some End'.Aborted))
unfolding child_course committer
child_onto opening test t child next made old calls new end legal final run =
    let begun = (musts_onto test starting work made old calls new end final (more_quiet (λ reply. refl) (more_quiet (λ reply. refl) (more_quiet (λ reply. refl) none_quiet))) run).0 in
    elim (acts_onto test (λ u. u ≡ child.name) (acts_of child.name child.acts.items) finish fail begun.made begun.old calls new end final (own_of (λ u. u ≡ child.name) child.name child.acts.items refl) begun.run) [
      | inl goes ↦
          let told = musts_onto test completing (commit_course child.name next next) goes.made goes.old calls new end final (more_quiet (λ reply. refl) (more_quiet (λ reply. refl) none_quiet)) goes.run in
          (elim (commit_onto opening test child.name next next told.0.made told.0.old calls new end legal final told.0.run) [ inl on ↦ goes_on on.0 | inr on ↦ goes_on on.0 ], inl (hands_over opening child.name t new legal told.1.1.0))
      | inr failing ↦
          let told = must_onto test (Abort failing.t) next failing.onto.made failing.onto.old calls new end final (abort_quiet failing.t) failing.onto.run in
          (goes_on told.0, inr (ap (λ (u : Txn). end_of (applied new) u.0) (sym failing.is) ∙ aborted_so opening failing.t new legal told.1))
    ] where
      starting : List Step
      starting = Initiate child.name (Some t) ∷ Permit t child.name All all_operations ∷ Begin child.name ∷ []

      completing : List Step
      completing = Complete child.name ∷ Delegate child.name t All ∷ []

      finish : Course
      finish = must_each_course completing (commit_course child.name next next)

      fail : Txn → Course
      fail = λ u. must_course (Abort u) next

      work : Course
      work = acts_course (acts_of child.name child.acts.items) finish fail

children_onto : (opening : Opening) (test : Entry → Bool) (t : Txn) (children : List Part) (next : Course) (made old calls new : List Entry) (end : ModelEnd) → IsLegal opening new → is_final end ≡ true
    → IsRunAmid test (children_course t children next) made old calls new (Ok end) → Goes test next calls new end × AllHandOver t new children
unfolding children_course
children_onto opening test t [] next made old calls new end legal final run = (record { made = made; old = old; run = run }, tt)
children_onto opening test t (child ∷ children) next made old calls new end legal final run =
    let first = child_onto opening test t child (children_course t children next) made old calls new end legal final run in
    let later = children_onto opening test t children next first.0.made first.0.old calls new end legal final first.0.run in
    (later.0, (first.1, later.1))

pub nested_hands_over : (opening : Opening) (test : Entry → Bool) (p : Part) (children : List Part) (old calls new : List Entry) → IsLegal opening new
    → IsRun (nested_course p children) [] calls (Ok ModelEnd'.Committed) → IsAmid test old calls new → AllHandOver p.name new children × (end_of (applied new) p.name.0 ≡ Some End'.Committed)
unfolding nested_course is_final give_up last_commit
nested_hands_over opening test p children old calls new legal run amid =
    let begun = (musts_onto test (starts p.name) work [] old calls new ModelEnd'.Committed refl (starts_quiet p.name) (whole test (must_each_course (starts p.name) work) calls old new (Ok ModelEnd'.Committed) run amid)).0 in
    elim (acts_onto test (λ u. u ≡ p.name) (acts_of p.name p.acts.items) on give_up begun.made begun.old calls new ModelEnd'.Committed refl (own_of (λ u. u ≡ p.name) p.name p.acts.items refl) begun.run) [
      | inl goes ↦
          let all = children_onto opening test p.name children finish goes.made goes.old calls new ModelEnd'.Committed legal refl goes.run in
          let completed = (must_onto test (Complete p.name) (last_commit p.name) all.0.made all.0.old calls new ModelEnd'.Committed refl (complete_quiet p.name) all.0.run).0 in
          elim (commit_onto opening test p.name (ends ModelEnd'.Committed) (ends ModelEnd'.Aborted) completed.made completed.old calls new ModelEnd'.Committed legal refl completed.run) [
            | inl is ↦ (all.1, is.1)
            | inr falls ↦ let told = ends_so test ModelEnd'.Aborted falls.0.made falls.0.old calls new ModelEnd'.Committed falls.0.run in cc
          ]
      | inr failing ↦
          let told = (must_onto test (Abort failing.t) (ends ModelEnd'.Aborted) failing.onto.made failing.onto.old calls new ModelEnd'.Committed refl (abort_quiet failing.t) failing.onto.run).0 in
          let is = ends_so test ModelEnd'.Aborted told.made told.old calls new ModelEnd'.Committed told.run in
          cc
    ] where
      finish : Course
      finish = must_course (Complete p.name) (last_commit p.name)

      on : Course
      on = children_course p.name children finish

      work : Course
      work = acts_course (acts_of p.name p.acts.items) on give_up
