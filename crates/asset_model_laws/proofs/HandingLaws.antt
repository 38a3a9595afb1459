-- What was split off stands, and what was joined is its taker's.
use Rattle.std.proofs.Common.{◌≡◌, ℕ, eqb, Bool, true, false, cond, not, List, [], ◌∷◌, ◌++◌, refl, subst, None, Some, inl, inr}
use Rattle.std.specs.Prelude.{Ok}
use Rattle.std.specs.List.{list_all}
use Rattle.std.proofs.lemmas.Bool.{false≢true, and_parts}
use Rattle.asset_names.specs.declared.names.Txn.{Txn}
use Rattle.asset_names.specs.declared.sets.ObSet.{ObSet}
use Rattle.asset_names.specs.declared.sets.ObSet.TheVariants.{All}
use Rattle.asset_names.specs.declared.statuses.End.TheVariants as End'
use Rattle.asset_names.specs.declared.steps.Step.{Step}
use Rattle.asset_names.specs.declared.steps.Step.TheVariants.{Initiate, Begin, Read, Write, Add, Complete, Permit, PermitAny, Delegate, Depend, Commit, Abort, WaitFor}
use Rattle.asset_names.specs.declared.replies.Reply.{Reply}
use Rattle.asset_names.specs.declared.replies.Reply.TheVariants as Reply'
use Rattle.asset_names.specs.Steps.{Opening, Entry, takes_effect, applied}
use Rattle.asset_names.specs.Endings.{end_of}
use Rattle.asset_names.specs.Operations.{operations, operated}
use Rattle.asset_names.specs.Answers.{IsLegal}
use Rattle.asset_names.specs.Groups.{actor}
use Rattle.asset_names.proofs.AppliedLemmas.{applied_with_effect, applied_without_effect}
use Rattle.asset_models.specs.declared.parts.ModelEnd.{ModelEnd}
use Rattle.asset_models.specs.declared.parts.ModelEnd.TheVariants as ModelEnd'
use Rattle.asset_models.specs.Courses.{Course, IsRun, is_refusal, must_course, must_each_course, commit_course, by_commit, last_commit, split_course, join_course}
use Rattle.asset_models.specs.Courses.Course.{ends}
use Rattle.asset_model_laws.specs.Amid.{OnlyOthers, IsAmid}
use Rattle.asset_model_laws.specs.Owners.{responsible}
use Rattle.asset_model_laws.specs.Handing.{is_anothers, StandsAs, TakesAll}
use Rattle.asset_model_laws.proofs.RunAmid.{IsRunAmid, whole}
use Rattle.asset_model_laws.proofs.EndLaws.{commit_committed_end}
use Rattle.asset_model_laws.proofs.OwnerLaws.{owner_later, handed_kept, all_handed, set_handed, responsible_stays}
use Rattle.asset_model_laws.proofs.AmidLemmas.{Grows, run_grows}
use Rattle.asset_model_laws.proofs.FinalLemmas.{is_final, ends_so, not_cut, not_refused}
use Rattle.asset_model_laws.proofs.NestedLaw.{done_reply}

-- the step delegates nothing of u
abbrev pub KeepsOf : Txn → Step → Type 0
KeepsOf u step = (giver taker : Txn) (obs : ObSet) → step ≡ Delegate giver taker obs → eqb giver.0 u.0 ≡ false

pub kept_by : (steps : List Step) (step : Step) (n : ℕ) (u : Txn) → KeepsOf u step → responsible steps n ≡ Some u.0 → responsible (step ∷ steps) n ≡ Some u.0
unfolding responsible operations operated
kept_by steps (Initiate t parent) n u keeps is = is
kept_by steps (Begin t) n u keeps is = is
kept_by steps (Read t x) n u keeps is = owner_later _ (operations steps) n u.0 is
kept_by steps (Write t x v) n u keeps is = owner_later _ (operations steps) n u.0 is
kept_by steps (Add t x v) n u keeps is = owner_later _ (operations steps) n u.0 is
kept_by steps (Complete t) n u keeps is = is
kept_by steps (Permit giver taker obs ops) n u keeps is = is
kept_by steps (PermitAny giver obs ops) n u keeps is = is
kept_by steps (Delegate giver taker obs) n u keeps is = handed_kept giver.0 taker.0 obs (operations steps) n u.0 (keeps giver taker obs refl) is
kept_by steps (Depend kind a b) n u keeps is = is
kept_by steps (Commit t) n u keeps is = is
kept_by steps (Abort t) n u keeps is = is
kept_by steps (WaitFor t) n u keeps is = is

-- by an entry
entry_keeps : (entry : Entry) (older : List Entry) (n : ℕ) (u : Txn) → KeepsOf u entry.0 → responsible (applied older) n ≡ Some u.0 → responsible (applied (entry ∷ older)) n ≡ Some u.0
entry_keeps entry older n u keeps is = go (takes_effect entry.0 entry.1) refl where
  go : (effect : Bool) → takes_effect entry.0 entry.1 ≡ effect → responsible (applied (entry ∷ older)) n ≡ Some u.0
  go true e = rw (applied_with_effect entry older e) (kept_by (applied older) entry.0 n u keeps is)
  go false e = rw (applied_without_effect entry older e) is

anothers_keep : (u : Txn) (entry : Entry) → is_anothers u entry ≡ true → KeepsOf u entry.0
unfolding is_anothers actor
anothers_keep u (step, reply) other giver taker obs is = go (eqb giver.0 u.0) (subst (λ (s : Step). not (eqb (actor s).0 u.0) ≡ true) is other) where
  go : (same : Bool) → not same ≡ true → same ≡ false
  go false h = refl
  go true h = absurd (false≢true h)

others_keep : (u : Txn) (others old : List Entry) (n : ℕ) → list_all (is_anothers u) others ≡ true → responsible (applied old) n ≡ Some u.0 → responsible (applied (others ++ old)) n ≡ Some u.0
others_keep u [] old n all is = is
others_keep u (entry ∷ others) old n all is =
    let parts = and_parts (is_anothers u entry) _ all in
    entry_keeps entry (others ++ old) n u (anothers_keep u entry parts.0) (others_keep u others old n parts.1 is)

pub since : (u : Txn) (old new : List Entry) (n : ℕ) → OnlyOthers (is_anothers u) old new → responsible (applied old) n ≡ Some u.0 → responsible (applied new) n ≡ Some u.0
since u old new n only is = rw only.1 (others_keep u only.0 old n only.2 is)

complete_keeps : (u t : Txn) → KeepsOf u (Complete t)
complete_keeps u t giver taker obs is = cc

commit_keeps : (u t : Txn) → KeepsOf u (Commit t)
commit_keeps u t giver taker obs is = cc

-- a step that is no act, with where it stands
record Next (test : Entry → Bool) (step : Step) (rest : Course) (made old calls new : List Entry) (end : ModelEnd) : Type 0 where
  pub between : List Entry
  pub reply : Reply
  pub others : OnlyOthers test old between
  pub accepted : is_refusal reply ≡ false
  pub run : IsRunAmid test rest ((step, reply) ∷ made) ((step, reply) ∷ between) calls new (Ok end)

must_next : (test : Entry → Bool) (step : Step) (rest : Course) (made old calls new : List Entry) (end : ModelEnd) → is_final end ≡ true
    → IsRunAmid test (must_course step rest) made old calls new (Ok end) → Next test step rest made old calls new end
unfolding must_course IsRunAmid
must_next test step rest made old calls new end final (inl cut) = absurd (not_cut step end final cut.2)
must_next test step rest made old calls new end final (inr more) = go (is_refusal more.2) refl more.3 where
  go : (refused : Bool) → is_refusal more.2 ≡ refused → IsRunAmid test (cond refused (ends (ModelEnd'.Refused step)) rest) ((step, more.2) ∷ made) ((step, more.2) ∷ more.0) calls new (Ok end)
      → Next test step rest made old calls new end
  go true e run = absurd (not_refused test step _ _ calls new end final run)
  go false e run = record { between = more.0; reply = more.2; others = more.1; accepted = e; run = run }

-- the last commit, which is answered with `Committed`
record Last (test : Entry → Bool) (t : Txn) (old new : List Entry) : Type 0 where
  pub between : List Entry
  pub before : OnlyOthers test old between
  pub after : OnlyOthers test ((Commit t, Reply'.Committed) ∷ between) new

last_next : (test : Entry → Bool) (t : Txn) (made old calls new : List Entry) → IsRunAmid test (last_commit t) made old calls new (Ok ModelEnd'.Committed) → Last test t old new
unfolding last_commit commit_course IsRunAmid by_commit is_final
last_next test t made old calls new (inl cut) = absurd (not_cut (Commit t) ModelEnd'.Committed refl cut.2)
last_next test t made old calls new (inr more) = go more.2 more.3 where
  go : (reply : Reply) → IsRunAmid test (by_commit t reply (ends ModelEnd'.Committed) (ends ModelEnd'.Aborted)) ((Commit t, reply) ∷ made) ((Commit t, reply) ∷ more.0) calls new (Ok ModelEnd'.Committed) → Last test t old new
  go Reply'.Committed run = record { between = more.0; before = more.1; after = run.1 }
  go (Reply'.Refused refusal) run = absurd (not_refused test (Commit t) _ _ calls new ModelEnd'.Committed refl run)
  go Reply'.Aborted run = let told = ends_so test ModelEnd'.Aborted _ _ calls new ModelEnd'.Committed run in cc
  go Reply'.Done run = let told = ends_so test ModelEnd'.Aborted _ _ calls new ModelEnd'.Committed run in cc
  go (Reply'.Value v) run = let told = ends_so test ModelEnd'.Aborted _ _ calls new ModelEnd'.Committed run in cc

-- from after a delegation to u to the end of a model that completes and commits t
record Ends (u t : Txn) (start new : List Entry) : Type 0 where
  pub keeps : (n : ℕ) → responsible (applied start) n ≡ Some u.0 → responsible (applied new) n ≡ Some u.0
  pub older : List Entry
  pub grows : Grows ((Commit t, Reply'.Committed) ∷ older) new

finishes : (u t : Txn) (made old calls new : List Entry) → IsRunAmid (is_anothers u) (must_course (Complete t) (last_commit t)) made old calls new (Ok ModelEnd'.Committed) → Ends u t old new
unfolding is_final
finishes u t made old calls new run =
    let completed = must_next (is_anothers u) (Complete t) (last_commit t) made old calls new ModelEnd'.Committed refl run in
    let last = last_next (is_anothers u) t _ _ calls new completed.run in
    record {
      keeps = λ n is.
          since u _ new n last.after
          (entry_keeps (Commit t, Reply'.Committed) last.between n u (commit_keeps u t)
          (since u _ last.between n last.before
          (entry_keeps (Complete t, completed.reply) completed.between n u (complete_keeps u t)
          (since u old completed.between n completed.others is))));
      older = last.between;
      grows = (last.after.0, last.after.1);
    }

-- a delegation and what follows it
record Handed (t u w : Txn) (obs : ObSet) (new : List Entry) : Type 0 where
  pub older : List Entry
  pub grows : Grows ((Delegate t u obs, Reply'.Done) ∷ older) new
  pub rest : Ends u w ((Delegate t u obs, Reply'.Done) ∷ older) new

handed : (opening : Opening) (t u w : Txn) (obs : ObSet) (made old calls new : List Entry) → IsLegal opening new
    → IsRunAmid (is_anothers u) (must_course (Delegate t u obs) (must_course (Complete w) (last_commit w))) made old calls new (Ok ModelEnd'.Committed) → Handed t u w obs new
unfolding is_final
handed opening t u w obs made old calls new legal run =
    let next = must_next (is_anothers u) (Delegate t u obs) (must_course (Complete w) (last_commit w)) made old calls new ModelEnd'.Committed refl run in
    go next.between next.reply (run_grows (is_anothers u) _ _ _ calls new (Ok ModelEnd'.Committed) next.run) next.accepted (finishes u w _ _ calls new next.run) where
      go : (between : List Entry) (reply : Reply) → Grows ((Delegate t u obs, reply) ∷ between) new → is_refusal reply ≡ false → Ends u w ((Delegate t u obs, reply) ∷ between) new → Handed t u w obs new
      go between reply grows accepted rest =
          let is = done_reply opening t u obs between reply new legal grows accepted in
          record { older = between; grows = subst (λ (r : Reply). Grows ((Delegate t u obs, r) ∷ between) new) is grows; rest = subst (λ (r : Reply). Ends u w ((Delegate t u obs, r) ∷ between) new) is rest }

pub split_stands : (opening : Opening) (t u : Txn) (obs : ObSet) (old calls new : List Entry) → IsLegal opening new
    → IsRun (split_course t u obs) [] calls (Ok ModelEnd'.Committed) → IsAmid (is_anothers u) old calls new → StandsAs opening t u obs new
unfolding split_course must_each_course is_final
split_stands opening t u obs old calls new legal run amid =
    let initiated = must_next (is_anothers u) (Initiate u None) (must_course (Begin u) (must_course (Delegate t u obs) (must_course (Complete u) (last_commit u)))) [] old calls new ModelEnd'.Committed refl (whole (is_anothers u) (split_course t u obs) calls old new (Ok ModelEnd'.Committed) run amid) in
    let begun = must_next (is_anothers u) (Begin u) (must_course (Delegate t u obs) (must_course (Complete u) (last_commit u))) _ _ calls new ModelEnd'.Committed refl initiated.run in
    let all = handed opening t u u obs _ _ calls new legal begun.run in
    let committed : end_of (applied new) u.0 ≡ Some End'.Committed = rw all.rest.grows.1 (commit_committed_end opening all.rest.grows.0 all.rest.older u (rw all.rest.grows.1 at legal)) in
    record {
      newer = all.grows.0;
      older = all.older;
      split = all.grows.1;
      committed = committed;
      takes = λ n is on. set_handed all.older t u obs n is on;
      stands = λ n later is legal'. responsible_stays opening later new u.0 End'.Committed n legal' committed (all.rest.keeps n is);
    }

pub join_takes_all : (opening : Opening) (t u : Txn) (old calls new : List Entry) → IsLegal opening new
    → IsRun (join_course t u) [] calls (Ok ModelEnd'.Committed) → IsAmid (is_anothers u) old calls new → TakesAll t u All new
unfolding join_course must_each_course
join_takes_all opening t u old calls new legal run amid =
    let all = handed opening t u t All [] old calls new legal (whole (is_anothers u) (join_course t u) calls old new (Ok ModelEnd'.Committed) run amid) in
    record {
      newer = all.grows.0;
      older = all.older;
      split = all.grows.1;
      takes = λ n is. all.rest.keeps n (all_handed all.older t u n is);
    }
