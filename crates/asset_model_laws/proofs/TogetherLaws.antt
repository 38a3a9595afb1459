-- Parts that a group commit joins end in one way.
use Rattle.std.proofs.Common.{◌≡◌, Bool, true, List, [], ◌∷◌, ◌++◌, map, flat_map, refl, sym, ◌∙◌, subst, None, Some, inl, inr}
use Rattle.std.specs.Prelude.{Ok}
use Rattle.asset_names.specs.declared.names.Txn.{Txn}
use Rattle.asset_names.specs.declared.sets.ObSet.{ObSet}
use Rattle.asset_names.specs.declared.statuses.End.{End}
use Rattle.asset_names.specs.declared.statuses.End.TheVariants as End'
use Rattle.asset_names.specs.declared.steps.Kind.TheVariants.{Gc}
use Rattle.asset_names.specs.declared.steps.Step.{Step}
use Rattle.asset_names.specs.declared.steps.Step.TheVariants.{Initiate, Begin, Complete, Depend, Abort}
use Rattle.asset_names.specs.declared.replies.Reply.{Reply}
use Rattle.asset_names.specs.declared.replies.Reply.TheVariants as Reply'
use Rattle.asset_names.specs.Steps.{Opening, Entry, applied}
use Rattle.asset_names.specs.Endings.{end_of}
use Rattle.asset_names.specs.Answers.{IsLegal, answer, first_refusal, rules_for, unrefused}
use Rattle.asset_entries.specs.Committing.{committer}
use Rattle.asset_models.specs.declared.parts.Act.{Act}
use Rattle.asset_models.specs.declared.parts.Part.{Part}
use Rattle.asset_models.specs.declared.parts.ModelEnd.{ModelEnd}
use Rattle.asset_models.specs.declared.parts.ModelEnd.TheVariants as ModelEnd'
use Rattle.asset_models.specs.Courses.{Course, IsRun, must_each_course, starts, acts_course, acts_of, turns, joins, give_up, last_commit, distributed_course, cooperating_course}
use Rattle.asset_models.specs.Courses.Course.{ends}
use Rattle.asset_model_laws.specs.Amid.{IsAmid}
use Rattle.asset_model_laws.specs.Ended.{AllEnded}
use Rattle.asset_model_laws.proofs.RunAmid.{IsRunAmid, whole}
use Rattle.asset_model_laws.proofs.EndLaws.{class_alike}
use Rattle.asset_model_laws.proofs.AmidLemmas.{Grows, legal_at}
use Rattle.asset_model_laws.proofs.FinalLemmas.{is_final, ends_so, Answered, AllAnswered, AllQuiet, AllOf, must_onto, musts_onto, acts_onto, commit_onto, aborted_so, abort_quiet, own_of, done_unless}
use Rattle.asset_model_laws.proofs.FinalLemmas.AllQuiet.{none_quiet, more_quiet}
use Rattle.asset_model_laws.proofs.FinalLemmas.AllOf.{none_of, more_of}

-- two whom a group commit joined end alike
pub joined_alike : (opening : Opening) (a b : Txn) (new : List Entry) → IsLegal opening new → Answered new (Depend Gc a b) → end_of (applied new) a.0 ≡ end_of (applied new) b.0
unfolding answer unrefused
joined_alike opening a b new legal told =
    let is : told.reply ≡ Reply'.Done = done_unless (first_refusal (rules_for opening (applied told.older) (Depend Gc a b))) told.reply (legal_at opening (Depend Gc a b, told.reply) told.older new legal told.grows) told.accepted in
    go (subst (λ (reply : Reply). Grows ((Depend Gc a b, reply) ∷ told.older) new) is told.grows) where
      go : Grows ((Depend Gc a b, Reply'.Done) ∷ told.older) new → end_of (applied new) a.0 ≡ end_of (applied new) b.0
      go grows = rw grows.1 (class_alike opening grows.0 told.older a b (rw grows.1 at legal))

-- it ends as p does
abbrev Alike : List Entry → Txn → Txn → Type 0
Alike new p t = end_of (applied new) p.0 ≡ end_of (applied new) t.0

pub data AllAlike (new : List Entry) (p : Txn) : List Part → Type 0 where
  none_alike : AllAlike new p []
  more_alike : {q : Part} {parts : List Part} → Alike new p q.name → AllAlike new p parts → AllAlike new p (q ∷ parts)

all_ended : (how : End) (new : List Entry) (p : Txn) (parts : List Part) → end_of (applied new) p.0 ≡ Some how → AllAlike new p parts → AllEnded how new parts
unfolding AllEnded
all_ended how new p [] is none_alike = tt
all_ended how new p (q ∷ parts) is (more_alike alike all) = (sym alike ∙ is, all_ended how new p parts is all)

-- the answer that tells of an end
unfoldable pub model_end_of : End → ModelEnd
model_end_of End'.Committed = ModelEnd'.Committed
model_end_of End'.Aborted = ModelEnd'.Aborted

-- the model tells how p has ended
pub record Tells (new : List Entry) (p : Txn) (end : ModelEnd) : Type 0 where
  pub how : End
  pub told : end ≡ model_end_of how
  pub is : end_of (applied new) p.0 ≡ Some how

last_tells : (opening : Opening) (test : Entry → Bool) (p : Txn) (made old calls new : List Entry) (end : ModelEnd) → IsLegal opening new → is_final end ≡ true
    → IsRunAmid test (last_commit p) made old calls new (Ok end) → Tells new p end
unfolding last_commit model_end_of
last_tells opening test p made old calls new end legal final run = elim (commit_onto opening test p (ends ModelEnd'.Committed) (ends ModelEnd'.Aborted) made old calls new end legal final run) [
  | inl goes ↦ record { how = End'.Committed; told = ends_so test ModelEnd'.Committed goes.0.made goes.0.old calls new end goes.0.run; is = goes.1 }
  | inr falls ↦ record { how = End'.Aborted; told = ends_so test ModelEnd'.Aborted falls.0.made falls.0.old calls new end falls.0.run; is = falls.1 }
]

give_up_tells : (opening : Opening) (test : Entry → Bool) (p t : Txn) (made old calls new : List Entry) (end : ModelEnd) → IsLegal opening new → is_final end ≡ true → Alike new p t
    → IsRunAmid test (give_up t) made old calls new (Ok end) → Tells new p end
unfolding give_up model_end_of
give_up_tells opening test p t made old calls new end legal final alike run =
    let told = must_onto test (Abort t) (ends ModelEnd'.Aborted) made old calls new end final (abort_quiet t) run in
    record { how = End'.Aborted; told = ends_so test ModelEnd'.Aborted told.0.made told.0.old calls new end told.0.run; is = alike ∙ aborted_so opening t new legal told.1 }

-- acts of those who end as p does, and then the last commit
acts_tell : (opening : Opening) (test : Entry → Bool) (p : Txn) (acts : List (Txn × Act)) (completes : List Step) (made old calls new : List Entry) (end : ModelEnd) → IsLegal opening new → is_final end ≡ true
    → AllOf (Alike new p) acts → AllQuiet completes
    → IsRunAmid test (acts_course acts (must_each_course completes (last_commit p)) give_up) made old calls new (Ok end) → Tells new p end
acts_tell opening test p acts completes made old calls new end legal final all quiet run = elim (acts_onto test (Alike new p) acts (must_each_course completes (last_commit p)) give_up made old calls new end final all run) [
  | inl goes ↦
      let onto = (musts_onto test completes (last_commit p) goes.made goes.old calls new end final quiet goes.run).0 in
      last_tells opening test p onto.made onto.old calls new end legal final onto.run
  | inr failing ↦ give_up_tells opening test p failing.t failing.onto.made failing.onto.old calls new end legal final failing.is failing.onto.run
]

starts_quiet : (parts : List Part) → AllQuiet (flat_map (λ (q : Part). starts q.name) parts)
unfolding starts committer
starts_quiet [] = none_quiet
starts_quiet (q ∷ parts) = more_quiet (λ reply. refl) (more_quiet (λ reply. refl) (starts_quiet parts))

joins_quiet : (t : Txn) (parts : List Part) → AllQuiet (map (λ (q : Part). Depend Gc t q.name) parts)
unfolding committer
joins_quiet t [] = none_quiet
joins_quiet t (q ∷ parts) = more_quiet (λ reply. refl) (joins_quiet t parts)

completes_quiet : (parts : List Part) → AllQuiet (map (λ (q : Part). Complete q.name) parts)
unfolding committer
completes_quiet [] = none_quiet
completes_quiet (q ∷ parts) = more_quiet (λ reply. refl) (completes_quiet parts)

joined_all : (opening : Opening) (t : Txn) (parts : List Part) (new : List Entry) → IsLegal opening new → AllAnswered new (map (λ (q : Part). Depend Gc t q.name) parts) → AllAlike new t parts
joined_all opening t [] new legal told = none_alike
joined_all opening t (q ∷ parts) new legal told = more_alike (joined_alike opening t q.name new legal told.0) (joined_all opening t parts new legal told.1)

append_of : (P : Txn → Type 0) (acts more : List (Txn × Act)) → AllOf P acts → AllOf P more → AllOf P (acts ++ more)
append_of P [] more none_of all = all
append_of P (act ∷ acts) more (more_of is rest) all = more_of is (append_of P acts more rest all)

acts_alike : (new : List Entry) (p : Txn) (parts : List Part) → AllAlike new p parts → AllOf (Alike new p) (flat_map (λ (q : Part). acts_of q.name q.acts.items) parts)
acts_alike new p [] none_alike = none_of
acts_alike new p (q ∷ parts) (more_alike alike all) = append_of (Alike new p) (acts_of q.name q.acts.items) _ (own_of (Alike new p) q.name q.acts.items alike) (acts_alike new p parts all)

-- all parts have ended as the model tells
pub record OneWay (new : List Entry) (parts : List Part) (end : ModelEnd) : Type 0 where
  pub how : End
  pub told : end ≡ model_end_of how
  pub all : AllEnded how new parts

pub distributed_one_way : (opening : Opening) (test : Entry → Bool) (parts : List Part) (old calls new : List Entry) (end : ModelEnd) → IsLegal opening new → is_final end ≡ true
    → IsRun (distributed_course parts) [] calls (Ok end) → IsAmid test old calls new → OneWay new parts end
unfolding distributed_course AllEnded model_end_of
distributed_one_way opening test [] old calls new end legal final run amid =
    record { how = End'.Committed; told = ends_so test ModelEnd'.Committed [] old calls new end (whole test (ends ModelEnd'.Committed) calls old new (Ok end) run amid); all = tt }
distributed_one_way opening test (p ∷ parts) old calls new end legal final run amid =
    let begun = (musts_onto test (flat_map (λ (q : Part). starts q.name) (p ∷ parts)) joining [] old calls new end final (starts_quiet (p ∷ parts)) (whole test (must_each_course (flat_map (λ (q : Part). starts q.name) (p ∷ parts)) joining) calls old new (Ok end) run amid)).0 in
    let tied = musts_onto test (map (λ (q : Part). Depend Gc p.name q.name) parts) working begun.made begun.old calls new end final (joins_quiet p.name parts) begun.run in
    let alike : AllAlike new p.name (p ∷ parts) = more_alike refl (joined_all opening p.name parts new legal tied.1) in
    let tells = acts_tell opening test p.name (flat_map (λ (q : Part). acts_of q.name q.acts.items) (p ∷ parts)) (map (λ (q : Part). Complete q.name) (p ∷ parts)) tied.0.made tied.0.old calls new end legal final (acts_alike new p.name (p ∷ parts) alike) (completes_quiet (p ∷ parts)) tied.0.run in
    record { how = tells.how; told = tells.told; all = all_ended tells.how new p.name (p ∷ parts) tells.is alike } where
      working : Course
      working = acts_course (flat_map (λ (q : Part). acts_of q.name q.acts.items) (p ∷ parts)) (must_each_course (map (λ (q : Part). Complete q.name) (p ∷ parts)) (last_commit p.name)) give_up

      joining : Course
      joining = must_each_course (map (λ (q : Part). Depend Gc p.name q.name) parts) working

-- acts in turn are of the two
turns_of : (P : Txn → Type 0) (t u : Txn) (acts others : List Act) → P t → P u → AllOf P (turns t u acts others)
unfolding turns
turns_of P t u [] others one other = own_of P u others other
turns_of P t u (act ∷ acts) [] one other = own_of P t (act ∷ acts) one
turns_of P t u (act ∷ acts) (act' ∷ others) one other = more_of one (more_of other (turns_of P t u acts others one other))

pub cooperating_one_way : (opening : Opening) (test : Entry → Bool) (p q : Part) (obs : ObSet) (old calls new : List Entry) (end : ModelEnd) → IsLegal opening new → is_final end ≡ true
    → IsRun (cooperating_course p q obs) [] calls (Ok end) → IsAmid test old calls new → OneWay new (p ∷ q ∷ []) end
unfolding cooperating_course joins committer
cooperating_one_way opening test p q obs old calls new end legal final run amid =
    let begun = (musts_onto test starting joining [] old calls new end final (more_quiet (λ reply. refl) (more_quiet (λ reply. refl) (more_quiet (λ reply. refl) (more_quiet (λ reply. refl) none_quiet)))) (whole test (must_each_course starting joining) calls old new (Ok end) run amid)).0 in
    let tied = musts_onto test (joins p.name q.name obs) working begun.made begun.old calls new end final (more_quiet (λ reply. refl) (more_quiet (λ reply. refl) (more_quiet (λ reply. refl) none_quiet))) begun.run in
    let alike : Alike new p.name q.name = joined_alike opening p.name q.name new legal tied.1.1.1.0 in
    let tells = acts_tell opening test p.name (turns p.name q.name p.acts.items q.acts.items) completing tied.0.made tied.0.old calls new end legal final (turns_of (Alike new p.name) p.name q.name p.acts.items q.acts.items refl alike) (more_quiet (λ reply. refl) (more_quiet (λ reply. refl) none_quiet)) tied.0.run in
    record { how = tells.how; told = tells.told; all = all_ended tells.how new p.name (p ∷ q ∷ []) tells.is (more_alike refl (more_alike alike none_alike)) } where
      starting : List Step
      starting = Initiate p.name None ∷ Begin p.name ∷ Initiate q.name None ∷ Begin q.name ∷ []

      completing : List Step
      completing = Complete p.name ∷ Complete q.name ∷ []

      working : Course
      working = acts_course (turns p.name q.name p.acts.items q.acts.items) (must_each_course completing (last_commit p.name)) give_up

      joining : Course
      joining = must_each_course (joins p.name q.name obs) working

-- how all have ended, by the answer
pub one_way_committed : (new : List Entry) (parts : List Part) → OneWay new parts ModelEnd'.Committed → AllEnded End'.Committed new parts
unfolding model_end_of
one_way_committed new parts way = go way.how way.told way.all where
  go : (how : End) → ModelEnd'.Committed ≡ model_end_of how → AllEnded how new parts → AllEnded End'.Committed new parts
  go End'.Committed told all = all
  go End'.Aborted told all = cc

pub one_way_aborted : (new : List Entry) (parts : List Part) → OneWay new parts ModelEnd'.Aborted → AllEnded End'.Aborted new parts
unfolding model_end_of
one_way_aborted new parts way = go way.how way.told way.all where
  go : (how : End) → ModelEnd'.Aborted ≡ model_end_of how → AllEnded how new parts → AllEnded End'.Aborted new parts
  go End'.Aborted told all = all
  go End'.Committed told all = cc
