-- Runs that come to the end of their course, taken apart from their first call on.
use Rattle.std.proofs.Common.{◌≡◌, ◌⊎◌, Bool, true, false, cond, List, [], ◌∷◌, refl, sym, ◌∙◌, ap, subst, None, Some, inl, inr}
use Rattle.std.specs.Prelude.{Result, Ok, Option}
use Rattle.std.proofs.lemmas.Bool.{false≢true}
use Rattle.asset_names.specs.declared.names.Txn.{Txn}
use Rattle.asset_names.specs.declared.statuses.End.TheVariants as End'
use Rattle.asset_names.specs.declared.steps.Step.{Step}
use Rattle.asset_names.specs.declared.steps.Step.TheVariants.{Read, Write, Add, Complete, Commit, Abort}
use Rattle.asset_names.specs.declared.replies.Fault.{Fault}
use Rattle.asset_names.specs.declared.replies.Refusal.{Refusal}
use Rattle.asset_names.specs.declared.replies.Reply.{Reply}
use Rattle.asset_names.specs.declared.replies.Reply.TheVariants as Reply'
use Rattle.asset_names.specs.declared.replies.Outcome.TheVariants.{Answer}
use Rattle.asset_names.specs.Steps.{Opening, Entry, applied}
use Rattle.asset_names.specs.Endings.{end_of, status}
use Rattle.asset_names.specs.Answers.{IsLegal, may_commit, outcome_unless}
use Rattle.asset_entries.specs.Committing.{committer}
use Rattle.asset_models.specs.declared.parts.Act.{Act}
use Rattle.asset_models.specs.declared.parts.Act.TheVariants as Act'
use Rattle.asset_models.specs.declared.parts.Part.{Part}
use Rattle.asset_models.specs.declared.parts.ModelEnd.{ModelEnd}
use Rattle.asset_models.specs.declared.parts.ModelEnd.TheVariants as ModelEnd'
use Rattle.asset_models.specs.Courses.{Course, IsCut, is_refusal, must_course, must_each_course, starts, by_commit, commit_course, operation_course, act_course, acts_course, acts_of, part_course}
use Rattle.asset_models.specs.Courses.Course.{ends}
use Rattle.asset_model_laws.specs.Sagas.{commits_in, one_commit}
use Rattle.asset_model_laws.proofs.RunAmid.{IsRunAmid}
use Rattle.asset_model_laws.proofs.EndLaws.{commit_answer, abort_answer, commit_committed_end}
use Rattle.asset_model_laws.proofs.AmidLemmas.{Grows, run_grows, legal_at, commit_replies, abort_replies, fell_by_commit, fell_by_abort}

-- the end of a course that was not cut short
unfoldable pub is_final : ModelEnd → Bool
is_final (ModelEnd'.Stopped step) = false
is_final (ModelEnd'.Refused step) = false
is_final end = true

pub not_cut : (step : Step) (end : ModelEnd) → is_final end ≡ true → IsCut step (Ok end) → ⊥
unfolding IsCut is_final
not_cut step end final cut = false≢true (ap is_final (sym cut) ∙ final)

pub ends_so : (test : Entry → Bool) (last : ModelEnd) (made old calls new : List Entry) (end : ModelEnd) → IsRunAmid test (ends last) made old calls new (Ok end) → end ≡ last
unfolding IsRunAmid
ends_so test last made old calls new end run = same (Ok end) end last refl run.2 where
  same : (result : Result ModelEnd Fault) (a b : ModelEnd) → result ≡ Ok a → result ≡ Ok b → a ≡ b
  same result a b e f = cc

pub not_refused : (test : Entry → Bool) (step : Step) (made old calls new : List Entry) (end : ModelEnd) → is_final end ≡ true → IsRunAmid test (ends (ModelEnd'.Refused step)) made old calls new (Ok end) → ⊥
unfolding is_final
not_refused test step made old calls new end final run = false≢true (ap is_final (sym (ends_so test (ModelEnd'.Refused step) made old calls new end run)) ∙ final)

pub not_stopped : (test : Entry → Bool) (step : Step) (made old calls new : List Entry) (end : ModelEnd) → is_final end ≡ true → IsRunAmid test (ends (ModelEnd'.Stopped step)) made old calls new (Ok end) → ⊥
unfolding is_final
not_stopped test step made old calls new end final run = false≢true (ap is_final (sym (ends_so test (ModelEnd'.Stopped step) made old calls new end run)) ∙ final)

-- the run goes on with the rest, after calls in which these transactions were committed
pub record Onto (test : Entry → Bool) (done : List Txn) (rest : Course) (calls new : List Entry) (end : ModelEnd) : Type 0 where
  pub made : List Entry
  pub old : List Entry
  pub same : commits_in made ≡ done
  pub run : IsRunAmid test rest made old calls new (Ok end)

pub onto_same : {test : Entry → Bool} {done done' : List Txn} {rest : Course} {calls new : List Entry} {end : ModelEnd} → done ≡ done' → Onto test done rest calls new end → Onto test done' rest calls new end
onto_same e onto = record { made = onto.made; old = onto.old; same = onto.same ∙ e; run = onto.run }

-- the step was answered, and not refused
pub record Answered (new : List Entry) (step : Step) : Type 0 where
  pub older : List Entry
  pub reply : Reply
  pub accepted : is_refusal reply ≡ false
  pub grows : Grows ((step, reply) ∷ older) new

-- no reply to the step commits somebody
abbrev pub Quiet : Step → Type 0
Quiet step = (reply : Reply) → committer step reply ≡ None

pub must_onto : (test : Entry → Bool) (step : Step) (next : Course) (made old calls new : List Entry) (end : ModelEnd) → is_final end ≡ true → Quiet step
    → IsRunAmid test (must_course step next) made old calls new (Ok end) → Onto test (commits_in made) next calls new end × Answered new step
unfolding must_course IsRunAmid commits_in one_commit
must_onto test step next made old calls new end final quiet (inl cut) = absurd (not_cut step end final cut.2)
must_onto test step next made old calls new end final quiet (inr more) = go (is_refusal more.2) refl more.3 where
  go : (refused : Bool) → is_refusal more.2 ≡ refused → IsRunAmid test (cond refused (ends (ModelEnd'.Refused step)) next) ((step, more.2) ∷ made) ((step, more.2) ∷ more.0) calls new (Ok end)
      → Onto test (commits_in made) next calls new end × Answered new step
  go true e run = absurd (not_refused test step _ _ calls new end final run)
  go false e run = (
    record { made = (step, more.2) ∷ made; old = (step, more.2) ∷ more.0; same = rw (quiet more.2) refl; run = run },
    record { older = more.0; reply = more.2; accepted = e; grows = run_grows test next _ _ calls new (Ok end) run },
  )

-- each of the steps
pub data AllQuiet : List Step → Type 0 where
  none_quiet : AllQuiet []
  more_quiet : {step : Step} {steps : List Step} → Quiet step → AllQuiet steps → AllQuiet (step ∷ steps)

abbrev pub AllAnswered : List Entry → List Step → Type 0
AllAnswered new [] = Unit {0}
AllAnswered new (step ∷ steps) = Answered new step × AllAnswered new steps

pub musts_onto : (test : Entry → Bool) (steps : List Step) (next : Course) (made old calls new : List Entry) (end : ModelEnd) → is_final end ≡ true → AllQuiet steps
    → IsRunAmid test (must_each_course steps next) made old calls new (Ok end) → Onto test (commits_in made) next calls new end × AllAnswered new steps
unfolding must_each_course
musts_onto test [] next made old calls new end final none_quiet run = (record { made = made; old = old; same = refl; run = run }, tt)
musts_onto test (step ∷ steps) next made old calls new end final (more_quiet quiet rest) run =
    let first = must_onto test step (must_each_course steps next) made old calls new end final quiet run in
    let later = musts_onto test steps next first.0.made first.0.old calls new end final rest first.0.run in
    (onto_same first.0.same later.0, (first.1, later.1))

-- acts: all are done, or one fails
operation_onto : (test : Entry → Bool) (step : Step) (done failed : Course) (made old calls new : List Entry) (end : ModelEnd) → is_final end ≡ true → Quiet step
    → IsRunAmid test (operation_course step done failed) made old calls new (Ok end) → Onto test (commits_in made) done calls new end ⊎ Onto test (commits_in made) failed calls new end
unfolding operation_course IsRunAmid commits_in one_commit
operation_onto test step done failed made old calls new end final quiet (inl cut) = absurd (not_cut step end final cut.2)
operation_onto test step done failed made old calls new end final quiet (inr more) = go (is_refusal more.2) more.3 where
  go : (refused : Bool) → IsRunAmid test (cond refused failed done) ((step, more.2) ∷ made) ((step, more.2) ∷ more.0) calls new (Ok end)
      → Onto test (commits_in made) done calls new end ⊎ Onto test (commits_in made) failed calls new end
  go true run = inr (record { made = (step, more.2) ∷ made; old = (step, more.2) ∷ more.0; same = rw (quiet more.2) refl; run = run })
  go false run = inl (record { made = (step, more.2) ∷ made; old = (step, more.2) ∷ more.0; same = rw (quiet more.2) refl; run = run })

act_onto : (test : Entry → Bool) (t : Txn) (act : Act) (done failed : Course) (made old calls new : List Entry) (end : ModelEnd) → is_final end ≡ true
    → IsRunAmid test (act_course t act done failed) made old calls new (Ok end) → Onto test (commits_in made) done calls new end ⊎ Onto test (commits_in made) failed calls new end
unfolding act_course committer
act_onto test t (Act'.Read x) done failed made old calls new end final run = operation_onto test (Read t x) done failed made old calls new end final (λ reply. refl) run
act_onto test t (Act'.Write x v) done failed made old calls new end final run = operation_onto test (Write t x v) done failed made old calls new end final (λ reply. refl) run
act_onto test t (Act'.Add x d) done failed made old calls new end final run = operation_onto test (Add t x d) done failed made old calls new end final (λ reply. refl) run
act_onto test t Act'.GiveUp done failed made old calls new end final run = inr (record { made = made; old = old; same = refl; run = run })

-- each act is of somebody of whom this holds
pub data AllOf (P : Txn → Type 0) : List (Txn × Act) → Type 0 where
  none_of : AllOf P []
  more_of : {act : Txn × Act} {acts : List (Txn × Act)} → P act.0 → AllOf P acts → AllOf P (act ∷ acts)

-- one of whom this holds has failed
pub record Failing (test : Entry → Bool) (P : Txn → Type 0) (done : List Txn) (failed : Txn → Course) (calls new : List Entry) (end : ModelEnd) : Type 0 where
  pub t : Txn
  pub is : P t
  pub onto : Onto test done (failed t) calls new end

pub acts_onto : (test : Entry → Bool) (P : Txn → Type 0) (acts : List (Txn × Act)) (done : Course) (failed : Txn → Course) (made old calls new : List Entry) (end : ModelEnd) → is_final end ≡ true → AllOf P acts
    → IsRunAmid test (acts_course acts done failed) made old calls new (Ok end) → Onto test (commits_in made) done calls new end ⊎ Failing test P (commits_in made) failed calls new end
unfolding acts_course
acts_onto test P [] done failed made old calls new end final none_of run = inl (record { made = made; old = old; same = refl; run = run })
acts_onto test P (act ∷ acts) done failed made old calls new end final (more_of is all) run =
    go (act_onto test act.0 act.1 (acts_course acts done failed) (failed act.0) made old calls new end final run) (λ made' old' r. acts_onto test P acts done failed made' old' calls new end final all r) where
      go : Onto test (commits_in made) (acts_course acts done failed) calls new end ⊎ Onto test (commits_in made) (failed act.0) calls new end
          → ((made' old' : List Entry) → IsRunAmid test (acts_course acts done failed) made' old' calls new (Ok end) → Onto test (commits_in made') done calls new end ⊎ Failing test P (commits_in made') failed calls new end)
          → Onto test (commits_in made) done calls new end ⊎ Failing test P (commits_in made) failed calls new end
      go (inr fails) deeper = inr (record { t = act.0; is = is; onto = fails })
      go (inl goes) deeper = elim (deeper goes.made goes.old goes.run) [
        | inl all_done ↦ inl (onto_same goes.same all_done)
        | inr fails ↦ inr (record { t = fails.t; is = fails.is; onto = onto_same goes.same fails.onto })
      ]

-- a commit
pub commit_onto : (opening : Opening) (test : Entry → Bool) (t : Txn) (committed aborted : Course) (made old calls new : List Entry) (end : ModelEnd) → IsLegal opening new → is_final end ≡ true
    → IsRunAmid test (commit_course t committed aborted) made old calls new (Ok end)
    → (Onto test (t ∷ commits_in made) committed calls new end × (end_of (applied new) t.0 ≡ Some End'.Committed)) ⊎ (Onto test (commits_in made) aborted calls new end × (end_of (applied new) t.0 ≡ Some End'.Aborted))
unfolding commit_course IsRunAmid by_commit is_refusal commits_in one_commit committer
commit_onto opening test t committed aborted made old calls new end legal final (inl cut) = absurd (not_cut (Commit t) end final cut.2)
commit_onto opening test t committed aborted made old calls new end legal final (inr more) = go more.2 more.3 where
  replies : (reply : Reply) → Grows ((Commit t, reply) ∷ more.0) new → (reply ≡ Reply'.Committed) ⊎ ((reply ≡ Reply'.Aborted) ⊎ (is_refusal reply ≡ true))
  replies reply grows = commit_replies t (status (applied more.0) t.0) (may_commit (applied more.0) t.0) reply (commit_answer opening (applied more.0) t reply (legal_at opening (Commit t, reply) more.0 new legal grows))

  stays : Grows ((Commit t, Reply'.Committed) ∷ more.0) new → end_of (applied new) t.0 ≡ Some End'.Committed
  stays grows = rw grows.1 (commit_committed_end opening grows.0 more.0 t (rw grows.1 at legal))

  go : (reply : Reply) → IsRunAmid test (by_commit t reply committed aborted) ((Commit t, reply) ∷ made) ((Commit t, reply) ∷ more.0) calls new (Ok end)
      → (Onto test (t ∷ commits_in made) committed calls new end × (end_of (applied new) t.0 ≡ Some End'.Committed)) ⊎ (Onto test (commits_in made) aborted calls new end × (end_of (applied new) t.0 ≡ Some End'.Aborted))
  go Reply'.Committed run = inl (record { made = (Commit t, Reply'.Committed) ∷ made; old = (Commit t, Reply'.Committed) ∷ more.0; same = refl; run = run }, stays (run_grows test _ _ _ calls new (Ok end) run))
  go Reply'.Aborted run = inr (record { made = (Commit t, Reply'.Aborted) ∷ made; old = (Commit t, Reply'.Aborted) ∷ more.0; same = refl; run = run }, fell_by_commit opening t more.0 new legal (run_grows test _ _ _ calls new (Ok end) run))
  go (Reply'.Refused refusal) run = absurd (not_refused test (Commit t) _ _ calls new end final run)
  go Reply'.Done run = elim (replies Reply'.Done (run_grows test _ _ _ calls new (Ok end) run)) [ inl is ↦ cc | inr other ↦ elim other [ inl is ↦ cc | inr refused ↦ absurd (false≢true refused) ] ]
  go (Reply'.Value v) run = elim (replies (Reply'.Value v) (run_grows test _ _ _ calls new (Ok end) run)) [ inl is ↦ cc | inr other ↦ elim other [ inl is ↦ cc | inr refused ↦ absurd (false≢true refused) ] ]

-- the reply to a step that is answered with `Done` unless it is refused
pub done_unless : (refusal : Option Refusal) (reply : Reply) → outcome_unless refusal (Answer Reply'.Done) ≡ Answer reply → is_refusal reply ≡ false → reply ≡ Reply'.Done
unfolding outcome_unless is_refusal
done_unless None reply is accepted = cc
done_unless (Some refusal) (Reply'.Refused other) is accepted = absurd (false≢true (sym accepted))
done_unless (Some refusal) Reply'.Done is accepted = cc
done_unless (Some refusal) Reply'.Committed is accepted = cc
done_unless (Some refusal) Reply'.Aborted is accepted = cc
done_unless (Some refusal) (Reply'.Value v) is accepted = cc

-- an abort that was not refused
pub aborted_so : (opening : Opening) (t : Txn) (new : List Entry) → IsLegal opening new → Answered new (Abort t) → end_of (applied new) t.0 ≡ Some End'.Aborted
aborted_so opening t new legal told =
    elim (abort_replies t (status (applied told.older) t.0) told.reply (abort_answer opening (applied told.older) t told.reply (legal_at opening (Abort t, told.reply) told.older new legal told.grows))) [
      | inl is ↦ fell_by_abort opening t told.older new legal (subst (λ (reply : Reply). Grows ((Abort t, reply) ∷ told.older) new) is told.grows)
      | inr refused ↦ absurd (false≢true (sym told.accepted ∙ refused))
    ]

pub abort_quiet : (t : Txn) → Quiet (Abort t)
unfolding committer
abort_quiet t reply = refl

pub complete_quiet : (t : Txn) → Quiet (Complete t)
unfolding committer
complete_quiet t reply = refl

pub starts_quiet : (t : Txn) → AllQuiet (starts t)
unfolding starts committer
starts_quiet t = more_quiet (λ reply. refl) (more_quiet (λ reply. refl) none_quiet)

-- the acts of one
pub own_of : (P : Txn → Type 0) (t : Txn) (acts : List Act) → P t → AllOf P (acts_of t acts)
unfolding acts_of
own_of P t [] is = none_of
own_of P t (act ∷ acts) is = more_of is (own_of P t acts is)

-- a part
pub part_onto : (opening : Opening) (test : Entry → Bool) (p : Part) (committed : Course) (aborted : Step → Course) (made old calls new : List Entry) (end : ModelEnd) → IsLegal opening new → is_final end ≡ true
    → IsRunAmid test (part_course p committed aborted) made old calls new (Ok end)
    → (Onto test (p.name ∷ commits_in made) committed calls new end × (end_of (applied new) p.name.0 ≡ Some End'.Committed))
    ⊎ ((step : Step) × Onto test (commits_in made) (aborted step) calls new end × (end_of (applied new) p.name.0 ≡ Some End'.Aborted))
unfolding part_course
part_onto opening test p committed aborted made old calls new end legal final run = begun (musts_onto test (starts p.name) work made old calls new end final (starts_quiet p.name) run).0 where
  finish : Course
  finish = must_course (Complete p.name) (commit_course p.name committed (aborted (Commit p.name)))

  fail : Txn → Course
  fail = λ t. must_course (Abort t) (aborted (Abort t))

  work : Course
  work = acts_course (acts_of p.name p.acts.items) finish fail

  Settled : Type 0
  Settled = (Onto test (p.name ∷ commits_in made) committed calls new end × (end_of (applied new) p.name.0 ≡ Some End'.Committed))
      ⊎ ((step : Step) × Onto test (commits_in made) (aborted step) calls new end × (end_of (applied new) p.name.0 ≡ Some End'.Aborted))

  finishes : Onto test (commits_in made) finish calls new end → Settled
  finishes onto =
      let completed = must_onto test (Complete p.name) (commit_course p.name committed (aborted (Commit p.name))) onto.made onto.old calls new end final (complete_quiet p.name) onto.run in
      let before : commits_in completed.0.made ≡ commits_in made = completed.0.same ∙ onto.same in
      elim (commit_onto opening test p.name committed (aborted (Commit p.name)) completed.0.made completed.0.old calls new end legal final completed.0.run) [
        | inl goes ↦ inl (onto_same (ap (λ (some : List Txn). p.name ∷ some) before) goes.0, goes.1)
        | inr falls ↦ inr (Commit p.name, onto_same before falls.0, falls.1)
      ]

  fails : Failing test (λ t. t ≡ p.name) (commits_in made) fail calls new end → Settled
  fails failing =
      let told = must_onto test (Abort failing.t) (aborted (Abort failing.t)) failing.onto.made failing.onto.old calls new end final (abort_quiet failing.t) failing.onto.run in
      inr (Abort failing.t, onto_same failing.onto.same told.0, ap (λ (t : Txn). end_of (applied new) t.0) (sym failing.is) ∙ aborted_so opening failing.t new legal told.1)

  begun : Onto test (commits_in made) work calls new end → Settled
  begun onto = elim (acts_onto test (λ t. t ≡ p.name) (acts_of p.name p.acts.items) finish fail onto.made onto.old calls new end final (own_of (λ t. t ≡ p.name) p.name p.acts.items refl) onto.run) [
    | inl all_done ↦ finishes (onto_same onto.same all_done)
    | inr failing ↦ fails (record { t = failing.t; is = failing.is; onto = onto_same onto.same failing.onto })
  ]
