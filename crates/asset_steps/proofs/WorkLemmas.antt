-- Steps that are answered while they take effect, by the statuses of their transactions.
use Rattle.std.proofs.Common.{◌≡◌, Bool, true, false, cond, not, List, [], ◌∷◌, refl, sym, ◌∙◌, ap, Some, None}
use Rattle.std.specs.Prelude.{Option}
use Rattle.std.proofs.lemmas.Bool.{false≢true}
use Rattle.asset_names.specs.declared.names.Txn.{Txn}
use Rattle.asset_names.specs.declared.statuses.Status.{Status}
use Rattle.asset_names.specs.declared.statuses.Status.TheVariants as Status'
use Rattle.asset_names.specs.declared.steps.Step.{Step}
use Rattle.asset_names.specs.declared.steps.Step.TheVariants.{Initiate, Begin, Complete, Commit, Abort, WaitFor}
use Rattle.asset_names.specs.declared.replies.Refusal.{Refusal}
use Rattle.asset_names.specs.declared.replies.Refusal.TheVariants.{Unknown, Ended, NotRunning, Taken, Begun, TooLate}
use Rattle.asset_names.specs.declared.replies.Reply.{Reply}
use Rattle.asset_names.specs.declared.replies.Reply.TheVariants.{Done, Committed, Aborted, Refused}
use Rattle.asset_names.specs.declared.replies.Outcome.{Outcome}
use Rattle.asset_names.specs.declared.replies.Outcome.TheVariants.{Answer, Wait}
use Rattle.asset_names.specs.Steps.{Opening, takes_effect, applied}
use Rattle.asset_names.specs.Endings.{is_live_status}
use Rattle.asset_names.specs.Answers.{Rule, answer, outcome_unless, unrefused, takes_memory, rules_for, first_refusal, unknown, ended, not_running, taken, begun_before, too_late, is_unknown, has_ended, has_begun, is_running, is_committed, commit_outcome, wait_outcome, may_commit}
use Rattle.asset_names.proofs.AppliedLemmas.{applied_with_effect}
use Rattle.asset_objects.specs.Cells.{cells}
use Rattle.asset_deps.specs.Dependencies.{class_in, doomed_in}
use Rattle.asset_locks.specs.LockTable as Locks
use Rattle.asset_trans.specs.TransRows.{status_in}
use Rattle.asset_ends.specs.declared.ending.Tried.TheVariants as Tried'
use Rattle.asset_ends.specs.Shows.{Shows}
use Rattle.asset_ends.specs.Shown.{ForShown, ShowsStill, ShowsWith, ShowsWithIf, ShowsOrderly}
use Rattle.asset_ends.specs.Standing.{Standing, values_of, step_if, may_commit_in, tried, SameView, SameViewInAnyOrder}
use Rattle.asset_steps.specs.Ready.{locks_after, locks_waiting, released}
use Rattle.asset_steps.specs.Stepped.{ShowsOutcome, locks_with, Stepped, Lacked}
use Rattle.asset_ends.proofs.EndingLemmas.{may_commit_shown}
use Rattle.asset_steps.proofs.OperationLemmas.{silent}
use Rattle.asset_ends.proofs.ShowsLemmas.{abort_again_shows, commit_again_shows, live_shown}
use Rattle.asset_ends.proofs.StandingLemmas.{same_alike}

-- a step that takes effect
pub effective : (before later : Standing) (step : Step) (reply : Reply) → ForShown before (λ opening steps. answer opening steps step ≡ Answer reply) → takes_effect step reply ≡ true → ShowsOrderly before step later → later.locks ≡ locks_after step before → Stepped before step (Answer reply) later
unfolding ShowsOutcome locks_with
effective before later step reply is effect stands locks = record {
  answered = λ opening steps stand. sym (is opening steps stand);
  stands = λ opening older stand orderly. rw (applied_with_effect (step, reply) older effect) (stands opening (applied older) stand orderly);
  locks = rw effect locks;
}

-- a step that waits and changes nothing
waiting : (before later : Standing) (step : Step) → ForShown before (λ opening steps. answer opening steps step ≡ Wait) → ShowsStill before later → later.locks ≡ locks_waiting step before → Stepped before step Wait later
unfolding ShowsOutcome locks_with
waiting before later step is stands locks = record {
  answered = λ opening steps stand. sym (is opening steps stand);
  stands = stands;
  locks = locks;
}

-- a step that would take effect, but for memory
pub lacking : (before later : Standing) (step : Step) (reply : Reply) → takes_memory step ≡ true → ForShown before (λ opening steps. answer opening steps step ≡ Answer reply) → takes_effect step reply ≡ true → SameViewInAnyOrder later before → Lacked before step later
lacking before later step reply takes is effect same = record { reply = reply; memory = takes; effect = effect; answered = is; same = same }

-- some rules decide which refusal of a step is the first
abbrev pub Decides : List Rule → Standing → Step → Type 0
Decides rules tables step = ForShown tables (λ opening steps. first_refusal (rules_for opening steps step) ≡ first_refusal rules)

-- what they refuse is refused
pub refused_by : (rules : List Rule) (tables : Standing) (step : Step) (refusal : Refusal) → Decides rules tables step → first_refusal rules ≡ Some refusal → takes_effect step (Refused refusal) ≡ false → Stepped tables step (Answer (Refused refusal)) tables
unfolding answer outcome_unless
refused_by rules tables step refusal decides is none = silent tables step (Refused refusal) (λ opening steps stand. rw (decides opening steps stand, is) refl) none

-- and what they do not is answered by what the step gives
pub given_by : (rules : List Rule) (tables : Standing) (step : Step) (opening : Opening) (steps : List _) (outcome : Outcome) → Shows opening steps (values_of tables) → Decides rules tables step → first_refusal rules ≡ None → unrefused opening steps step ≡ outcome → answer opening steps step ≡ outcome
unfolding answer outcome_unless
given_by rules tables step opening steps outcome stand decides none is = rw (decides opening steps stand, none) is

-- Initiates

abbrev pub initiate_rules : Status → Txn → List Rule
initiate_rules now t = (not (is_unknown now), Taken t) ∷ []

decides_initiate : (tables : Standing) (t : Txn) (parent : Option Txn) → Decides (initiate_rules (status_in tables.trans t.0) t) tables (Initiate t parent)
unfolding rules_for taken
decides_initiate tables t parent = λ opening steps stand. rw (stand.statuses t.0) refl

pub initiate_may : (now : Status) (t : Txn) → first_refusal (initiate_rules now t) ≡ None → now ≡ Status'.Unknown
unfolding first_refusal is_unknown
initiate_may Status'.Unknown t none = refl
initiate_may Status'.Initiated t none = cc
initiate_may Status'.Running t none = cc
initiate_may Status'.Completed t none = cc
initiate_may Status'.Committed t none = cc
initiate_may Status'.Aborted t none = cc

pub initiate_refused : (tables : Standing) (t : Txn) (parent : Option Txn) (refusal : Refusal) → first_refusal (initiate_rules (status_in tables.trans t.0) t) ≡ Some refusal → Stepped tables (Initiate t parent) (Answer (Refused refusal)) tables
unfolding takes_effect
initiate_refused tables t parent refusal is = refused_by _ tables (Initiate t parent) refusal (decides_initiate tables t parent) is refl

initiate_given : (tables : Standing) (t : Txn) (parent : Option Txn) → first_refusal (initiate_rules (status_in tables.trans t.0) t) ≡ None → ForShown tables (λ opening steps. answer opening steps (Initiate t parent) ≡ Answer Done)
unfolding unrefused
initiate_given tables t parent none = λ opening steps stand. given_by _ tables (Initiate t parent) opening steps (Answer Done) stand (decides_initiate tables t parent) none refl

pub initiate_done : (before later : Standing) (t : Txn) (parent : Option Txn) → first_refusal (initiate_rules (status_in before.trans t.0) t) ≡ None → ShowsOrderly before (Initiate t parent) later → later.locks ≡ Locks.enrol_in t.0 before.locks → Stepped before (Initiate t parent) (Answer Done) later
unfolding takes_effect locks_after
initiate_done before later t parent none stands locks = effective before later (Initiate t parent) Done (initiate_given before t parent none) refl stands locks

pub initiate_lacks : (before later : Standing) (t : Txn) (parent : Option Txn) → first_refusal (initiate_rules (status_in before.trans t.0) t) ≡ None → SameView later before → Lacked before (Initiate t parent) later
unfolding takes_effect takes_memory
initiate_lacks before later t parent none same = lacking before later (Initiate t parent) Done refl (initiate_given before t parent none) refl (same_alike later before same)

-- Begins

abbrev pub begin_rules : Status → Txn → List Rule
begin_rules now t = (is_unknown now, Unknown t) ∷ (has_ended now, Ended t) ∷ (has_begun now, Begun t) ∷ []

decides_begin : (tables : Standing) (t : Txn) → Decides (begin_rules (status_in tables.trans t.0) t) tables (Begin t)
unfolding rules_for unknown ended begun_before
decides_begin tables t = λ opening steps stand. rw (stand.statuses t.0) refl

pub begin_may : (now : Status) (t : Txn) → first_refusal (begin_rules now t) ≡ None → now ≡ Status'.Initiated
unfolding first_refusal is_unknown has_ended has_begun
begin_may Status'.Initiated t none = refl
begin_may Status'.Unknown t none = cc
begin_may Status'.Running t none = cc
begin_may Status'.Completed t none = cc
begin_may Status'.Committed t none = cc
begin_may Status'.Aborted t none = cc

pub begin_refused : (tables : Standing) (t : Txn) (refusal : Refusal) → first_refusal (begin_rules (status_in tables.trans t.0) t) ≡ Some refusal → Stepped tables (Begin t) (Answer (Refused refusal)) tables
unfolding takes_effect
begin_refused tables t refusal is = refused_by _ tables (Begin t) refusal (decides_begin tables t) is refl

pub begin_done : (before later : Standing) (t : Txn) → first_refusal (begin_rules (status_in before.trans t.0) t) ≡ None → ShowsWith before (Begin t) later → later.locks ≡ before.locks → Stepped before (Begin t) (Answer Done) later
unfolding takes_effect locks_after unrefused
begin_done before later t none stands locks =
    effective before later (Begin t) Done (λ opening steps stand. given_by _ before (Begin t) opening steps (Answer Done) stand (decides_begin before t) none refl) refl (λ opening steps stand orderly. stands opening steps stand) locks

-- Completes

abbrev pub work_rules : Status → Txn → List Rule
work_rules now t = (is_unknown now, Unknown t) ∷ (has_ended now, Ended t) ∷ (not (is_running now), NotRunning t) ∷ []

decides_complete : (tables : Standing) (t : Txn) → Decides (work_rules (status_in tables.trans t.0) t) tables (Complete t)
unfolding rules_for unknown ended not_running
decides_complete tables t = λ opening steps stand. rw (stand.statuses t.0) refl

pub work_may : (now : Status) (t : Txn) → first_refusal (work_rules now t) ≡ None → now ≡ Status'.Running
unfolding first_refusal is_unknown has_ended is_running
work_may Status'.Running t none = refl
work_may Status'.Unknown t none = cc
work_may Status'.Initiated t none = cc
work_may Status'.Completed t none = cc
work_may Status'.Committed t none = cc
work_may Status'.Aborted t none = cc

pub complete_refused : (tables : Standing) (t : Txn) (refusal : Refusal) → first_refusal (work_rules (status_in tables.trans t.0) t) ≡ Some refusal → Stepped tables (Complete t) (Answer (Refused refusal)) tables
unfolding takes_effect
complete_refused tables t refusal is = refused_by _ tables (Complete t) refusal (decides_complete tables t) is refl

pub complete_done : (before later : Standing) (t : Txn) → first_refusal (work_rules (status_in before.trans t.0) t) ≡ None → ShowsWith before (Complete t) later → later.locks ≡ before.locks → Stepped before (Complete t) (Answer Done) later
unfolding takes_effect locks_after unrefused
complete_done before later t none stands locks =
    effective before later (Complete t) Done (λ opening steps stand. given_by _ before (Complete t) opening steps (Answer Done) stand (decides_complete before t) none refl) refl (λ opening steps stand orderly. stands opening steps stand) locks

-- Commits, and waits for an end

abbrev pub find_rules : Status → Txn → List Rule
find_rules now t = (is_unknown now, Unknown t) ∷ []

decides_commit : (tables : Standing) (t : Txn) → Decides (find_rules (status_in tables.trans t.0) t) tables (Commit t)
unfolding rules_for unknown
decides_commit tables t = λ opening steps stand. rw (stand.statuses t.0) refl

decides_wait : (tables : Standing) (t : Txn) → Decides (find_rules (status_in tables.trans t.0) t) tables (WaitFor t)
unfolding rules_for unknown
decides_wait tables t = λ opening steps stand. rw (stand.statuses t.0) refl

pub commit_refused : (tables : Standing) (t : Txn) (refusal : Refusal) → first_refusal (find_rules (status_in tables.trans t.0) t) ≡ Some refusal → Stepped tables (Commit t) (Answer (Refused refusal)) tables
unfolding takes_effect
commit_refused tables t refusal is = refused_by _ tables (Commit t) refusal (decides_commit tables t) is refl

pub wait_refused : (tables : Standing) (t : Txn) (refusal : Refusal) → first_refusal (find_rules (status_in tables.trans t.0) t) ≡ Some refusal → Stepped tables (WaitFor t) (Answer (Refused refusal)) tables
unfolding takes_effect
wait_refused tables t refusal is = refused_by _ tables (WaitFor t) refusal (decides_wait tables t) is refl

-- who is live was initiated
live_found : (now : Status) (t : Txn) → is_live_status now ≡ true → first_refusal (find_rules now t) ≡ None
unfolding first_refusal is_unknown is_live_status
live_found Status'.Unknown t live = absurd (false≢true live)
live_found Status'.Initiated t live = refl
live_found Status'.Running t live = refl
live_found Status'.Completed t live = refl
live_found Status'.Committed t live = refl
live_found Status'.Aborted t live = refl

-- the commit of who is live is answered by whether its class may commit
live_commit : (now : Status) (ready : Bool) → is_live_status now ≡ true → commit_outcome now ready ≡ cond ready (Answer Committed) Wait
unfolding commit_outcome is_live_status
live_commit Status'.Initiated ready live = refl
live_commit Status'.Running ready live = refl
live_commit Status'.Completed ready live = refl
live_commit Status'.Unknown ready live = absurd (false≢true live)
live_commit Status'.Committed ready live = absurd (false≢true live)
live_commit Status'.Aborted ready live = absurd (false≢true live)

commit_given : (tables : Standing) (t : Txn) (ready : Bool) → is_live_status (status_in tables.trans t.0) ≡ true → may_commit_in tables t.0 ≡ ready → ForShown tables (λ opening steps. answer opening steps (Commit t) ≡ cond ready (Answer Committed) Wait)
unfolding unrefused
commit_given tables t ready live may = λ opening steps stand.
    given_by _ tables (Commit t) opening steps (cond ready (Answer Committed) Wait) stand (decides_commit tables t) (live_found _ t live)
    (ap (λ now. commit_outcome now (may_commit steps t.0)) (sym (stand.statuses t.0)) ∙ live_commit _ _ live ∙ ap (λ may. cond may (Answer Committed) Wait) (sym (may_commit_shown opening steps tables t.0 stand) ∙ may))

pub commit_done : (before later : Standing) (t : Txn) → is_live_status (status_in before.trans t.0) ≡ true → Tried'.Committed ≡ tried (may_commit_in before t.0) → ShowsWithIf before (may_commit_in before t.0) (Commit t) later
    → later.locks ≡ cond (may_commit_in before t.0) (Locks.release_in (class_in before.deps t.0) before.locks) before.locks → Stepped before (Commit t) (Answer Committed) later
unfolding takes_effect locks_after released tried step_if
commit_done before later t live is stands locks = go (may_commit_in before t.0) refl is stands locks where
  go : (may : Bool) → may_commit_in before t.0 ≡ may → Tried'.Committed ≡ tried may → ShowsWithIf before may (Commit t) later → later.locks ≡ cond may (Locks.release_in (class_in before.deps t.0) before.locks) before.locks → Stepped before (Commit t) (Answer Committed) later
  go false e is stands locks = cc
  go true e is stands locks = effective before later (Commit t) Committed (commit_given before t true live e) refl (λ opening steps stand orderly. stands opening steps stand) (rw live locks)

pub commit_stays : (before later : Standing) (t : Txn) → is_live_status (status_in before.trans t.0) ≡ true → Tried'.Wait ≡ tried (may_commit_in before t.0) → ShowsWithIf before (may_commit_in before t.0) (Commit t) later
    → later.locks ≡ cond (may_commit_in before t.0) (Locks.release_in (class_in before.deps t.0) before.locks) before.locks → Stepped before (Commit t) Wait later
unfolding tried step_if locks_waiting
commit_stays before later t live is stands locks = go (may_commit_in before t.0) refl is stands locks where
  go : (may : Bool) → may_commit_in before t.0 ≡ may → Tried'.Wait ≡ tried may → ShowsWithIf before may (Commit t) later → later.locks ≡ cond may (Locks.release_in (class_in before.deps t.0) before.locks) before.locks → Stepped before (Commit t) Wait later
  go true e is stands locks = cc
  go false e is stands locks = waiting before later (Commit t) (commit_given before t false live e) stands locks

-- the commit of who has ended says how it ended, and changes nothing
pub commit_ended : (tables : Standing) (t : Txn) → first_refusal (find_rules (status_in tables.trans t.0) t) ≡ None → is_live_status (status_in tables.trans t.0) ≡ false → Stepped tables (Commit t) (commit_outcome (status_in tables.trans t.0) false) tables
unfolding takes_effect locks_after released unrefused first_refusal is_unknown is_live_status commit_outcome
commit_ended tables t none dead = go (status_in tables.trans t.0) refl none dead where
  said : (now : Status) (outcome : Outcome) → status_in tables.trans t.0 ≡ now → ((ready : Bool) → commit_outcome now ready ≡ outcome) → ForShown tables (λ opening steps. answer opening steps (Commit t) ≡ outcome)
  said now outcome e is = λ opening steps stand. given_by (find_rules (status_in tables.trans t.0) t) tables (Commit t) opening steps outcome stand (decides_commit tables t) none (ap (λ now. commit_outcome now (may_commit steps t.0)) (sym (stand.statuses t.0) ∙ e) ∙ is (may_commit steps t.0))

  again : ShowsOrderly tables (Commit t) tables
  again = λ opening steps stand orderly.
      commit_again_shows opening steps tables.trans (cells tables.objects) tables.locks tables.permits tables.deps t stand (sym (live_shown opening steps tables.trans (cells tables.objects) tables.locks tables.permits tables.deps t.0 stand) ∙ dead)

  go : (now : Status) → status_in tables.trans t.0 ≡ now → first_refusal (find_rules now t) ≡ None → is_live_status now ≡ false → Stepped tables (Commit t) (commit_outcome now false) tables
  go Status'.Committed e none over = effective tables tables (Commit t) Committed (said Status'.Committed (Answer Committed) e (λ ready. refl)) refl again (rw dead refl)
  go Status'.Aborted e none over = silent tables (Commit t) Aborted (said Status'.Aborted (Answer Aborted) e (λ ready. refl)) refl
  go Status'.Unknown e none over = cc
  go Status'.Initiated e none over = absurd (false≢true (sym over))
  go Status'.Running e none over = absurd (false≢true (sym over))
  go Status'.Completed e none over = absurd (false≢true (sym over))

-- a wait for an end says how the transaction stands, and changes nothing
pub wait_done : (tables : Standing) (t : Txn) → first_refusal (find_rules (status_in tables.trans t.0) t) ≡ None → Stepped tables (WaitFor t) (wait_outcome (status_in tables.trans t.0)) tables
unfolding takes_effect locks_waiting unrefused wait_outcome
wait_done tables t none = go (status_in tables.trans t.0) refl where
  said : (now : Status) → status_in tables.trans t.0 ≡ now → ForShown tables (λ opening steps. answer opening steps (WaitFor t) ≡ wait_outcome now)
  said now e = λ opening steps stand. given_by (find_rules (status_in tables.trans t.0) t) tables (WaitFor t) opening steps (wait_outcome now) stand (decides_wait tables t) none (ap wait_outcome (sym (stand.statuses t.0) ∙ e))

  go : (now : Status) → status_in tables.trans t.0 ≡ now → Stepped tables (WaitFor t) (wait_outcome now) tables
  go Status'.Completed e = silent tables (WaitFor t) Done (said Status'.Completed e) refl
  go Status'.Committed e = silent tables (WaitFor t) Committed (said Status'.Committed e) refl
  go Status'.Aborted e = silent tables (WaitFor t) Aborted (said Status'.Aborted e) refl
  go Status'.Unknown e = waiting tables tables (WaitFor t) (said Status'.Unknown e) (λ opening steps stand. stand) refl
  go Status'.Initiated e = waiting tables tables (WaitFor t) (said Status'.Initiated e) (λ opening steps stand. stand) refl
  go Status'.Running e = waiting tables tables (WaitFor t) (said Status'.Running e) (λ opening steps stand. stand) refl

-- Aborts

abbrev pub abort_rules : Status → Txn → List Rule
abort_rules now t = (is_unknown now, Unknown t) ∷ (is_committed now, TooLate t) ∷ []

decides_abort : (tables : Standing) (t : Txn) → Decides (abort_rules (status_in tables.trans t.0) t) tables (Abort t)
unfolding rules_for unknown too_late
decides_abort tables t = λ opening steps stand. rw (stand.statuses t.0) refl

pub abort_refused : (tables : Standing) (t : Txn) (refusal : Refusal) → first_refusal (abort_rules (status_in tables.trans t.0) t) ≡ Some refusal → Stepped tables (Abort t) (Answer (Refused refusal)) tables
unfolding takes_effect
abort_refused tables t refusal is = refused_by _ tables (Abort t) refusal (decides_abort tables t) is refl

abort_given : (tables : Standing) (t : Txn) → first_refusal (abort_rules (status_in tables.trans t.0) t) ≡ None → ForShown tables (λ opening steps. answer opening steps (Abort t) ≡ Answer Aborted)
unfolding unrefused
abort_given tables t none = λ opening steps stand. given_by _ tables (Abort t) opening steps (Answer Aborted) stand (decides_abort tables t) none refl

pub abort_done : (before later : Standing) (t : Txn) → first_refusal (abort_rules (status_in before.trans t.0) t) ≡ None → is_live_status (status_in before.trans t.0) ≡ true → ShowsWith before (Abort t) later → later.locks ≡ Locks.release_in (doomed_in before.deps t.0) before.locks
    → Stepped before (Abort t) (Answer Aborted) later
unfolding takes_effect locks_after released
abort_done before later t none live stands locks = effective before later (Abort t) Aborted (abort_given before t none) refl (λ opening steps stand orderly. stands opening steps stand) (rw live locks)

pub abort_ended : (tables : Standing) (t : Txn) → first_refusal (abort_rules (status_in tables.trans t.0) t) ≡ None → is_live_status (status_in tables.trans t.0) ≡ false → Stepped tables (Abort t) (Answer Aborted) tables
unfolding takes_effect locks_after released
abort_ended tables t none dead =
    effective tables tables (Abort t) Aborted (abort_given tables t none) refl (λ opening steps stand orderly. abort_again_shows opening steps _ _ _ _ _ t stand (sym (live_shown opening steps _ _ _ _ _ t.0 stand) ∙ dead)) (rw dead refl)
