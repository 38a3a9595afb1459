-- A step that is answered finds the tables ready for it.
use Rattle.std.proofs.Common.{◌≡◌, ℕ, Bool, true, false, cond, List, [], refl, sym, ◌∙◌, ap, Some, None}
use Rattle.std.specs.Prelude.{Option}
use Rattle.std.proofs.lemmas.Bool.{not-false, false≢true}
use Rattle.asset_names.specs.declared.names.Txn.{Txn}
use Rattle.asset_names.specs.declared.operations.Op.TheVariants as Op'
use Rattle.asset_names.specs.declared.statuses.Status.{Status}
use Rattle.asset_names.specs.declared.statuses.Status.TheVariants as Status'
use Rattle.asset_names.specs.declared.steps.Step.{Step}
use Rattle.asset_names.specs.declared.steps.Step.TheVariants.{Initiate, Begin, Read, Write, Add, Complete, Permit, PermitAny, Delegate, Depend, Commit, Abort, WaitFor}
use Rattle.asset_names.specs.declared.replies.Refusal.{Refusal}
use Rattle.asset_names.specs.declared.replies.Reply.{Reply}
use Rattle.asset_names.specs.declared.replies.Outcome.{Outcome}
use Rattle.asset_names.specs.declared.replies.Outcome.TheVariants.{Answer, Wait}
use Rattle.asset_names.specs.Steps.{Opening, takes_effect}
use Rattle.asset_names.specs.Endings.{status, is_live_status}
use Rattle.asset_names.specs.Answers.{answer, outcome_unless, unrefused, rules_for, first_refusal, unknown, ended, taken, begun_before, is_unknown, has_ended, has_begun, is_running, may_commit, commit_outcome}
use Rattle.asset_names.proofs.LegalLemmas.{effect_unrefused, first_none, complete_runs, permit_live, open_live, delegate_live, depend_live}
use Rattle.asset_trans.specs.TransRows.{status_in}
use Rattle.asset_ends.specs.Shows.{Shows}
use Rattle.asset_ends.specs.Standing.{Standing, values_of, is_free_for}
use Rattle.asset_ends.proofs.ShowsLemmas.{free_shown, live_shown}
use Rattle.asset_ends.proofs.DependLaws.{would_cycle_shown}
use Rattle.asset_ends.proofs.EndingLemmas.{may_commit_shown}
use Rattle.asset_ends.proofs.StandingLemmas.{object_exists}
use Rattle.asset_steps.specs.Ready.{IsReady, MayWait}
use Rattle.asset_steps.proofs.AnswerLemmas.{read_unrefused, write_unrefused, add_unrefused}

running_is : (status : Status) → is_running status ≡ true → status ≡ Status'.Running
unfolding is_running
running_is Status'.Running h = refl
running_is Status'.Unknown h = absurd (false≢true h)
running_is Status'.Initiated h = absurd (false≢true h)
running_is Status'.Completed h = absurd (false≢true h)
running_is Status'.Committed h = absurd (false≢true h)
running_is Status'.Aborted h = absurd (false≢true h)

unknown_is : (status : Status) → is_unknown status ≡ true → status ≡ Status'.Unknown
unfolding is_unknown
unknown_is Status'.Unknown h = refl
unknown_is Status'.Initiated h = absurd (false≢true h)
unknown_is Status'.Running h = absurd (false≢true h)
unknown_is Status'.Completed h = absurd (false≢true h)
unknown_is Status'.Committed h = absurd (false≢true h)
unknown_is Status'.Aborted h = absurd (false≢true h)

initiated_is : (status : Status) → is_unknown status ≡ false → has_ended status ≡ false → has_begun status ≡ false → status ≡ Status'.Initiated
unfolding is_unknown has_ended has_begun
initiated_is Status'.Initiated a b c = refl
initiated_is Status'.Unknown a b c = absurd (false≢true (sym a))
initiated_is Status'.Running a b c = absurd (false≢true (sym c))
initiated_is Status'.Completed a b c = absurd (false≢true (sym c))
initiated_is Status'.Committed a b c = absurd (false≢true (sym b))
initiated_is Status'.Aborted a b c = absurd (false≢true (sym b))

-- who runs by the history runs by the tables
runs : (opening : Opening) (steps : List Step) (tables : Standing) (t : ℕ) → Shows opening steps (values_of tables) → is_running (status steps t) ≡ true → status_in tables.trans t ≡ Status'.Running
runs opening steps tables t stand running = stand.statuses t ∙ running_is (status steps t) running

-- an operation that is answered is free, and one that waits is not
free_if : (is_free : Bool) (reply : Reply) (other : Outcome) → cond is_free other Wait ≡ Answer reply → is_free ≡ true
free_if true reply other h = refl
free_if false reply other h = cc

blocked_if : (is_free : Bool) (reply : Reply) → cond is_free (Answer reply) Wait ≡ Wait → is_free ≡ false
blocked_if false reply h = refl
blocked_if true reply h = cc

-- an answer that comes where nothing is refused is that of the step itself
answered_unrefused : (opening : Opening) (steps : List Step) (step : Step) (outcome : Outcome) → answer opening steps step ≡ outcome → first_refusal (rules_for opening steps step) ≡ None → unrefused opening steps step ≡ outcome
unfolding answer outcome_unless
answered_unrefused opening steps step outcome is none = rw none at is

-- the class of who is live and whose commit takes effect may commit
commit_ready : (opening : Opening) (steps : List Step) (t : Txn) (reply : Reply) → answer opening steps (Commit t) ≡ Answer reply → takes_effect (Commit t) reply ≡ true → is_live_status (status steps t.0) ≡ true → may_commit steps t.0 ≡ true
unfolding unrefused is_live_status commit_outcome
commit_ready opening steps t reply is carried alive =
    go (status steps t.0) (may_commit steps t.0) alive (answered_unrefused opening steps (Commit t) (Answer reply) is (effect_unrefused opening steps (Commit t) reply is carried)) where
      go : (now : Status) (ready : Bool) → is_live_status now ≡ true → commit_outcome now ready ≡ Answer reply → ready ≡ true
      go now true live outcome = refl
      go Status'.Initiated false live outcome = cc
      go Status'.Running false live outcome = cc
      go Status'.Completed false live outcome = cc
      go Status'.Unknown false live outcome = live
      go Status'.Committed false live outcome = live
      go Status'.Aborted false live outcome = live

-- a step that waits is not refused
waits_unrefused : (opening : Opening) (steps : List Step) (step : Step) → answer opening steps step ≡ Wait → first_refusal (rules_for opening steps step) ≡ None
unfolding answer outcome_unless
waits_unrefused opening steps step is = go (first_refusal (rules_for opening steps step)) is where
  go : (first : Option Refusal) → outcome_unless first (unrefused opening steps step) ≡ Wait → first ≡ None
  go None h = refl
  go (Some refusal) h = cc

pub ready : (opening : Opening) (steps : List Step) (tables : Standing) (step : Step) (reply : Reply) → Shows opening steps (values_of tables) → answer opening steps step ≡ Answer reply → takes_effect step reply ≡ true → IsReady step tables
unfolding rules_for unknown ended taken begun_before unrefused is_free_for
ready opening steps tables (Initiate t parent) reply stand is carried =
    stand.statuses t.0 ∙ unknown_is (status steps t.0) (not-false _ (first_none (taken steps t) [] (effect_unrefused opening steps (Initiate t parent) reply is carried)).0)
ready opening steps tables (Begin t) reply stand is carried =
    let one = first_none (unknown steps t) _ (effect_unrefused opening steps (Begin t) reply is carried) in
    let two = first_none (ended steps t) _ one.1 in
    let three = first_none (begun_before steps t) [] two.1 in
    stand.statuses t.0 ∙ initiated_is (status steps t.0) one.0 two.0 three.0
ready opening steps tables (Read t x) reply stand is carried =
    let none = effect_unrefused opening steps (Read t x) reply is carried in
    let there = read_unrefused opening steps t x none in
    (runs opening steps tables t.0 stand there.0, free_shown opening steps _ _ _ _ _ t.0 x.0 Op'.Read stand ∙ free_if _ reply _ (answered_unrefused opening steps (Read t x) (Answer reply) is none), object_exists opening steps tables x.0 stand ∙ there.1)
ready opening steps tables (Write t x v) reply stand is carried =
    let none = effect_unrefused opening steps (Write t x v) reply is carried in
    let there = write_unrefused opening steps t x v none in
    (runs opening steps tables t.0 stand there.0, free_shown opening steps _ _ _ _ _ t.0 x.0 Op'.Write stand ∙ free_if _ reply _ (answered_unrefused opening steps (Write t x v) (Answer reply) is none), object_exists opening steps tables x.0 stand ∙ there.1)
ready opening steps tables (Add t x d) reply stand is carried =
    let none = effect_unrefused opening steps (Add t x d) reply is carried in
    let there = add_unrefused opening steps t x d none in
    (runs opening steps tables t.0 stand there.0, free_shown opening steps _ _ _ _ _ t.0 x.0 Op'.Add stand ∙ free_if _ reply _ (answered_unrefused opening steps (Add t x d) (Answer reply) is none), object_exists opening steps tables x.0 stand ∙ there.1)
ready opening steps tables (Complete t) reply stand is carried = stand.statuses t.0 ∙ running_is (status steps t.0) (complete_runs opening steps t reply is carried)
ready opening steps tables (Permit giver taker obs ops) reply stand is carried =
    let both = permit_live opening steps giver taker obs ops reply is carried in
    (live_shown opening steps _ _ _ _ _ giver.0 stand ∙ both.0, live_shown opening steps _ _ _ _ _ taker.0 stand ∙ both.1)
ready opening steps tables (PermitAny giver obs ops) reply stand is carried = live_shown opening steps _ _ _ _ _ giver.0 stand ∙ open_live opening steps giver obs ops reply is carried
ready opening steps tables (Delegate giver taker obs) reply stand is carried =
    let both = delegate_live opening steps giver taker obs reply is carried in
    (live_shown opening steps _ _ _ _ _ giver.0 stand ∙ both.1, live_shown opening steps _ _ _ _ _ taker.0 stand ∙ both.2)
ready opening steps tables (Depend kind a b) reply stand is carried =
    let all = depend_live opening steps kind a b reply is carried in
    (live_shown opening steps _ _ _ _ _ a.0 stand ∙ all.1, live_shown opening steps _ _ _ _ _ b.0 stand ∙ all.2, would_cycle_shown steps tables.deps stand.dependencies_stand kind a.0 b.0 ∙ all.3)
ready opening steps tables (Commit t) reply stand is carried = λ alive. may_commit_shown opening steps tables t.0 stand ∙ commit_ready opening steps t reply is carried (ap is_live_status (sym (stand.statuses t.0)) ∙ alive)
ready opening steps tables (Abort t) reply stand is carried = tt
ready opening steps tables (WaitFor t) reply stand is carried = tt

pub may_wait : (opening : Opening) (steps : List Step) (tables : Standing) (step : Step) → Shows opening steps (values_of tables) → answer opening steps step ≡ Wait → MayWait step tables
unfolding unrefused is_free_for
may_wait opening steps tables (Read t x) stand is =
    let none = waits_unrefused opening steps (Read t x) is in
    let there = read_unrefused opening steps t x none in
    (runs opening steps tables t.0 stand there.0, free_shown opening steps _ _ _ _ _ t.0 x.0 Op'.Read stand ∙ blocked_if _ _ (answered_unrefused opening steps (Read t x) Wait is none), object_exists opening steps tables x.0 stand ∙ there.1)
may_wait opening steps tables (Write t x v) stand is =
    let none = waits_unrefused opening steps (Write t x v) is in
    let there = write_unrefused opening steps t x v none in
    (runs opening steps tables t.0 stand there.0, free_shown opening steps _ _ _ _ _ t.0 x.0 Op'.Write stand ∙ blocked_if _ _ (answered_unrefused opening steps (Write t x v) Wait is none), object_exists opening steps tables x.0 stand ∙ there.1)
may_wait opening steps tables (Add t x d) stand is =
    let none = waits_unrefused opening steps (Add t x d) is in
    let there = add_unrefused opening steps t x d none in
    (runs opening steps tables t.0 stand there.0, free_shown opening steps _ _ _ _ _ t.0 x.0 Op'.Add stand ∙ blocked_if _ _ (answered_unrefused opening steps (Add t x d) Wait is none), object_exists opening steps tables x.0 stand ∙ there.1)
may_wait opening steps tables (Initiate t parent) stand is = tt
may_wait opening steps tables (Begin t) stand is = tt
may_wait opening steps tables (Complete t) stand is = tt
may_wait opening steps tables (Permit giver taker obs ops) stand is = tt
may_wait opening steps tables (PermitAny giver obs ops) stand is = tt
may_wait opening steps tables (Delegate giver taker obs) stand is = tt
may_wait opening steps tables (Depend kind a b) stand is = tt
may_wait opening steps tables (Commit t) stand is = tt
may_wait opening steps tables (Abort t) stand is = tt
may_wait opening steps tables (WaitFor t) stand is = tt
