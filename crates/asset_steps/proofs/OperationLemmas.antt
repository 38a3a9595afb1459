-- Reads, writes and adds that are answered while they take effect.
use Rattle.std.proofs.Common.{◌≡◌, ℕ, ℤ, Bool, true, false, cond, List, [], ◌∷◌, refl, sym, ◌∙◌, ap, Some, None}
use Rattle.std.specs.Prelude.{Option, is_some, not, option_map}
use Rattle.std.proofs.lemmas.Bool.{false≢true}
use Rattle.asset_names.specs.declared.names.Txn.{Txn}
use Rattle.asset_names.specs.declared.names.Ob.{Ob}
use Rattle.asset_names.specs.declared.operations.Op.TheVariants as Op'
use Rattle.asset_names.specs.declared.statuses.Status.{Status}
use Rattle.asset_names.specs.declared.statuses.Status.TheVariants as Status'
use Rattle.asset_names.specs.declared.steps.Step.{Step}
use Rattle.asset_names.specs.declared.steps.Step.TheVariants.{Read}
use Rattle.asset_names.specs.declared.replies.Refusal.{Refusal}
use Rattle.asset_names.specs.declared.replies.Refusal.TheVariants.{Unknown, Ended, NotRunning, NoObject}
use Rattle.asset_names.specs.declared.replies.Reply.{Reply}
use Rattle.asset_names.specs.declared.replies.Reply.TheVariants.{Done, Value, Refused}
use Rattle.asset_names.specs.declared.replies.Outcome.{Outcome}
use Rattle.asset_names.specs.declared.replies.Outcome.TheVariants.{Answer, Wait}
use Rattle.asset_names.specs.Steps.{Opening, takes_effect, applied}
use Rattle.asset_names.specs.Answers.{answer, outcome_unless, unrefused, rules_for, takes_memory, first_refusal, unknown, ended, not_running, no_object, is_unknown, has_ended, is_running}
use Rattle.asset_names.specs.Operations.{free}
use Rattle.asset_names.proofs.AppliedLemmas.{applied_with_effect, applied_without_effect}
use Rattle.asset_objects.specs.Cells.{Cell, Cells, cells, shown, value_in, has_object}
use Rattle.asset_locks.specs.LockTable as Locks
use Rattle.asset_locks.specs.Valid.{after_ask}
use Rattle.asset_trans.specs.TransRows.{status_in}
use Rattle.asset_ends.specs.Shows.{Shows}
use Rattle.asset_ends.specs.Shown.{ForShown, ShowsWithIf}
use Rattle.asset_ends.specs.Standing.{Standing, values_of, is_free_for, step_if, SameView}
use Rattle.asset_ends.specs.declared.updating.Update.{Update}
use Rattle.asset_ends.specs.declared.updating.Update.TheVariants as Update'
use Rattle.asset_ends.specs.Updates.{step_of, op_of}
use Rattle.asset_steps.specs.Ready.{value_or_zero, read_outcome, locks_after, locks_waiting}
use Rattle.asset_steps.specs.Stepped.{ShowsOutcome, locks_with, Stepped, Lacked}
use Rattle.asset_steps.proofs.AnswerLemmas.{read_answered}
use Rattle.asset_ends.proofs.ShowsLemmas.{free_shown}
use Rattle.asset_ends.proofs.StandingLemmas.{object_exists, same_alike}

-- the first refusal of a read, a write or an add, by the status and by whether the object exists
abbrev pub refusal_by : Status → Bool → Txn → Ob → Option Refusal
refusal_by now there t x = first_refusal ((is_unknown now, Unknown t) ∷ (has_ended now, Ended t) ∷ (not (is_running now), NotRunning t) ∷ (not there, NoObject x) ∷ [])

-- an object exists if it has a value
pub valued_object : (cells : Cells) (x : ℕ) → is_some (value_in cells x) ≡ has_object cells x
unfolding value_in has_object
valued_object cells x = go (cells x) where
  go : (cell : Option Cell) → is_some (option_map shown cell) ≡ is_some cell
  go None = refl
  go (Some cell) = refl

-- who is not refused runs, and finds the object
pub found : (now : Status) (there : Bool) (t : Txn) (x : Ob) → refusal_by now there t x ≡ None → (now ≡ Status'.Running) × (there ≡ true)
unfolding first_refusal is_unknown has_ended is_running
found Status'.Running true t x none = (refl, refl)
found Status'.Running false t x none = cc
found Status'.Unknown there t x none = cc
found Status'.Initiated there t x none = cc
found Status'.Completed there t x none = cc
found Status'.Committed there t x none = cc
found Status'.Aborted there t x none = cc

-- the refusal by the tables is that by the history
refusal_shown : (opening : Opening) (steps : List Step) (tables : Standing) (t : Txn) (x : Ob) → Shows opening steps (values_of tables)
    → refusal_by (status_in tables.trans t.0) (has_object (cells tables.objects) x.0) t x ≡ first_refusal (unknown steps t ∷ ended steps t ∷ not_running steps t ∷ no_object opening x ∷ [])
unfolding unknown ended not_running no_object
refusal_shown opening steps tables t x stand = rw (stand.statuses t.0, object_exists opening steps tables x.0 stand) refl

-- a step whose answer takes no effect
pub silent : (tables : Standing) (step : Step) (reply : Reply) → ForShown tables (λ opening steps. answer opening steps step ≡ Answer reply) → takes_effect step reply ≡ false → Stepped tables step (Answer reply) tables
unfolding ShowsOutcome locks_with
silent tables step reply is none = record {
  answered = λ opening steps stand. sym (is opening steps stand);
  stands = λ opening older stand orderly. rw (applied_without_effect (step, reply) older none) stand;
  locks = rw none refl;
}

-- a step that is refused
refused : (tables : Standing) (step : Step) (refusal : Refusal) → ForShown tables (λ opening steps. first_refusal (rules_for opening steps step) ≡ Some refusal) → takes_effect step (Refused refusal) ≡ false → Stepped tables step (Answer (Refused refusal)) tables
unfolding answer outcome_unless
refused tables step refusal first none = silent tables step (Refused refusal) (λ opening steps stand. rw (first opening steps stand) refl) none

pub read_refused : (tables : Standing) (t : Txn) (x : Ob) (refusal : Refusal) → refusal_by (status_in tables.trans t.0) (has_object (cells tables.objects) x.0) t x ≡ Some refusal → Stepped tables (Read t x) (Answer (Refused refusal)) tables
unfolding rules_for takes_effect
read_refused tables t x refusal is = refused tables (Read t x) refusal (λ opening steps stand. sym (refusal_shown opening steps tables t x stand) ∙ is) refl

pub update_refused : (tables : Standing) (t : Txn) (x : Ob) (update : Update) (v : ℤ) (refusal : Refusal) → refusal_by (status_in tables.trans t.0) (has_object (cells tables.objects) x.0) t x ≡ Some refusal → Stepped tables (step_of update t x v) (Answer (Refused refusal)) tables
unfolding rules_for takes_effect step_of
update_refused tables t x Update'.Write v refusal is = refused tables (step_of Update'.Write t x v) refusal (λ opening steps stand. sym (refusal_shown opening steps tables t x stand) ∙ is) refl
update_refused tables t x Update'.Add v refusal is = refused tables (step_of Update'.Add t x v) refusal (λ opening steps stand. sym (refusal_shown opening steps tables t x stand) ∙ is) refl

-- nothing refuses a transaction that runs an object that exists
unrefused_by : (opening : Opening) (steps : List Step) (tables : Standing) (t : Txn) (x : Ob) → status_in tables.trans t.0 ≡ Status'.Running → has_object (cells tables.objects) x.0 ≡ true → Shows opening steps (values_of tables)
    → first_refusal (unknown steps t ∷ ended steps t ∷ not_running steps t ∷ no_object opening x ∷ []) ≡ None
unfolding first_refusal is_unknown has_ended is_running
unrefused_by opening steps tables t x runs there stand = sym (refusal_shown opening steps tables t x stand) ∙ rw (runs, there) refl

-- so it is answered as a step that is not refused
read_answer : (opening : Opening) (steps : List Step) (tables : Standing) (t : Txn) (x : Ob) → status_in tables.trans t.0 ≡ Status'.Running → has_object (cells tables.objects) x.0 ≡ true → Shows opening steps (values_of tables)
    → read_outcome tables t.0 x.0 ≡ answer opening steps (Read t x)
unfolding answer outcome_unless rules_for
read_answer opening steps tables t x runs there stand =
    read_answered opening steps tables t x stand (sym (object_exists opening steps tables x.0 stand) ∙ there)
    ∙ ap (λ first. outcome_unless first (unrefused opening steps (Read t x))) (sym (unrefused_by opening steps tables t x runs there stand))

-- what a write or an add that is not refused is answered
abbrev update_outcome : Standing → Txn → Ob → Update → Outcome
update_outcome tables t x update = cond (is_free_for tables t.0 x.0 (op_of update)) (Answer Done) Wait

update_answer : (opening : Opening) (steps : List Step) (tables : Standing) (t : Txn) (x : Ob) (update : Update) (v : ℤ) → status_in tables.trans t.0 ≡ Status'.Running → has_object (cells tables.objects) x.0 ≡ true → Shows opening steps (values_of tables)
    → update_outcome tables t x update ≡ answer opening steps (step_of update t x v)
unfolding answer outcome_unless rules_for unrefused is_free_for step_of op_of
update_answer opening steps tables t x Update'.Write v runs there stand =
    ap (λ free. cond free (Answer Done) Wait) (free_shown opening steps _ _ _ _ _ t.0 x.0 Op'.Write stand)
    ∙ ap (λ first. outcome_unless first (unrefused opening steps (step_of Update'.Write t x v))) (sym (unrefused_by opening steps tables t x runs there stand))
update_answer opening steps tables t x Update'.Add v runs there stand =
    ap (λ free. cond free (Answer Done) Wait) (free_shown opening steps _ _ _ _ _ t.0 x.0 Op'.Add stand)
    ∙ ap (λ first. outcome_unless first (unrefused opening steps (step_of Update'.Add t x v))) (sym (unrefused_by opening steps tables t x runs there stand))

-- an update that is not refused, by whether its object is free
pub update_unrefused : (opening : Opening) (steps : List Step) (t : Txn) (x : Ob) (update : Update) (v : ℤ) (may : Bool) → free steps t.0 x.0 (op_of update) ≡ may → cond may (Answer Done) Wait ≡ unrefused opening steps (step_of update t x v)
unfolding unrefused step_of op_of
update_unrefused opening steps t x Update'.Write v may is = rw is refl
update_unrefused opening steps t x Update'.Add v may is = rw is refl

-- an update that is done takes effect, needs memory, and leaves these locks
update_effect : (t : Txn) (x : Ob) (update : Update) (v : ℤ) → takes_effect (step_of update t x v) Done ≡ true
unfolding takes_effect step_of
update_effect t x Update'.Write v = refl
update_effect t x Update'.Add v = refl

update_memory : (t : Txn) (x : Ob) (update : Update) (v : ℤ) → takes_memory (step_of update t x v) ≡ true
unfolding takes_memory step_of
update_memory t x Update'.Write v = refl
update_memory t x Update'.Add v = refl

locks_updated : (tables : Standing) (t : Txn) (x : Ob) (update : Update) (v : ℤ) → Locks.grant_in t.0 x (op_of update) tables.locks ≡ locks_after (step_of update t x v) tables
unfolding locks_after step_of op_of
locks_updated tables t x Update'.Write v = refl
locks_updated tables t x Update'.Add v = refl

locks_pending : (tables : Standing) (t : Txn) (x : Ob) (update : Update) (v : ℤ) → Locks.wait_in t.0 x (op_of update) tables.locks ≡ locks_waiting (step_of update t x v) tables
unfolding locks_waiting step_of op_of
locks_pending tables t x Update'.Write v = refl
locks_pending tables t x Update'.Add v = refl

pub read_granted : (before later : Standing) (t : Txn) (x : Ob) (v : ℤ) → status_in before.trans t.0 ≡ Status'.Running → has_object (cells before.objects) x.0 ≡ true
    → Some v ≡ cond (is_free_for before t.0 x.0 Op'.Read) (value_in (cells before.objects) x.0) None → ShowsWithIf before (is_free_for before t.0 x.0 Op'.Read) (Read t x) later
    → later.locks ≡ after_ask (is_free_for before t.0 x.0 Op'.Read) t.0 x Op'.Read before.locks → Stepped before (Read t x) (Answer (Value v)) later
unfolding read_outcome value_or_zero ShowsOutcome locks_with takes_effect locks_after after_ask step_if
read_granted before later t x v runs there is stands locks = go (is_free_for before t.0 x.0 Op'.Read) refl is stands locks where
  go : (free : Bool) → is_free_for before t.0 x.0 Op'.Read ≡ free → Some v ≡ cond free (value_in (cells before.objects) x.0) None → ShowsWithIf before free (Read t x) later → later.locks ≡ after_ask free t.0 x Op'.Read before.locks → Stepped before (Read t x) (Answer (Value v)) later
  go false free is stands locks = cc
  go true free is stands locks = record {
    answered = λ opening steps stand. sym (rw (free, ← is) refl) ∙ read_answer opening steps before t x runs there stand;
    stands = λ opening older stand orderly. rw (applied_with_effect (Read t x, Value v) older refl) (stands opening (applied older) stand);
    locks = locks;
  }

pub read_waits : (before later : Standing) (t : Txn) (x : Ob) → status_in before.trans t.0 ≡ Status'.Running → has_object (cells before.objects) x.0 ≡ true
    → None ≡ cond (is_free_for before t.0 x.0 Op'.Read) (value_in (cells before.objects) x.0) None → ShowsWithIf before (is_free_for before t.0 x.0 Op'.Read) (Read t x) later
    → later.locks ≡ after_ask (is_free_for before t.0 x.0 Op'.Read) t.0 x Op'.Read before.locks → Stepped before (Read t x) Wait later
unfolding read_outcome ShowsOutcome locks_with locks_waiting after_ask step_if
read_waits before later t x runs there is stands locks = go (is_free_for before t.0 x.0 Op'.Read) refl is stands locks where
  valued : None ≡ value_in (cells before.objects) x.0 → ⊥
  valued none = false≢true (ap is_some none ∙ valued_object (cells before.objects) x.0 ∙ there)

  go : (free : Bool) → is_free_for before t.0 x.0 Op'.Read ≡ free → None ≡ cond free (value_in (cells before.objects) x.0) None → ShowsWithIf before free (Read t x) later → later.locks ≡ after_ask free t.0 x Op'.Read before.locks → Stepped before (Read t x) Wait later
  go true free is stands locks = absurd (valued is)
  go false free is stands locks = record {
    answered = λ opening steps stand. sym (rw free refl) ∙ read_answer opening steps before t x runs there stand;
    stands = stands;
    locks = locks;
  }

pub read_lacks : (before later : Standing) (t : Txn) (x : Ob) → status_in before.trans t.0 ≡ Status'.Running → has_object (cells before.objects) x.0 ≡ true
    → is_free_for before t.0 x.0 Op'.Read ≡ true → SameView later before → Lacked before (Read t x) later
unfolding read_outcome takes_effect takes_memory
read_lacks before later t x runs there free same = record {
  reply = Value (value_or_zero before x.0);
  memory = refl;
  effect = refl;
  answered = λ opening steps stand. sym (sym (rw free refl) ∙ read_answer opening steps before t x runs there stand);
  same = same_alike later before same;
}

pub update_granted : (before later : Standing) (t : Txn) (x : Ob) (update : Update) (v : ℤ) → status_in before.trans t.0 ≡ Status'.Running → has_object (cells before.objects) x.0 ≡ true
    → true ≡ is_free_for before t.0 x.0 (op_of update) → ShowsWithIf before (is_free_for before t.0 x.0 (op_of update)) (step_of update t x v) later
    → later.locks ≡ after_ask (is_free_for before t.0 x.0 (op_of update)) t.0 x (op_of update) before.locks → Stepped before (step_of update t x v) (Answer Done) later
unfolding ShowsOutcome locks_with after_ask step_if
update_granted before later t x update v runs there free stands locks = record {
  answered = λ opening steps stand. sym (rw (← free) refl) ∙ update_answer opening steps before t x update v runs there stand;
  stands = λ opening older stand orderly. rw (applied_with_effect (step_of update t x v, Done) older (update_effect t x update v)) ((rw (← free) at stands) opening (applied older) stand);
  locks = rw (update_effect t x update v) ((rw (← free) at locks) ∙ locks_updated before t x update v);
}

pub update_waits : (before later : Standing) (t : Txn) (x : Ob) (update : Update) (v : ℤ) → status_in before.trans t.0 ≡ Status'.Running → has_object (cells before.objects) x.0 ≡ true
    → false ≡ is_free_for before t.0 x.0 (op_of update) → ShowsWithIf before (is_free_for before t.0 x.0 (op_of update)) (step_of update t x v) later
    → later.locks ≡ after_ask (is_free_for before t.0 x.0 (op_of update)) t.0 x (op_of update) before.locks → Stepped before (step_of update t x v) Wait later
unfolding ShowsOutcome locks_with after_ask step_if
update_waits before later t x update v runs there free stands locks = record {
  answered = λ opening steps stand. sym (rw (← free) refl) ∙ update_answer opening steps before t x update v runs there stand;
  stands = rw (← free) at stands;
  locks = (rw (← free) at locks) ∙ locks_pending before t x update v;
}

pub update_lacks : (before later : Standing) (t : Txn) (x : Ob) (update : Update) (v : ℤ) → status_in before.trans t.0 ≡ Status'.Running → has_object (cells before.objects) x.0 ≡ true
    → is_free_for before t.0 x.0 (op_of update) ≡ true → SameView later before → Lacked before (step_of update t x v) later
update_lacks before later t x update v runs there free same = record {
  reply = Done;
  memory = update_memory t x update v;
  effect = update_effect t x update v;
  answered = λ opening steps stand. sym (sym (rw free refl) ∙ update_answer opening steps before t x update v runs there stand);
  same = same_alike later before same;
}
