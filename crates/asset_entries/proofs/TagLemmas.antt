-- The reply to a step is about what the step names.
use Rattle.std.proofs.Common.{◌≡◌, suc, Bool, true, false, cond, eqb, List, [], ◌∷◌, refl, sym, ◌∙◌, ap, subst, None}
use Rattle.std.specs.Prelude.{pos, Some, Option, find, slice_get, unwrap_or}
use Rattle.std.proofs.lemmas.Bool.{eqb-true, eq-eqb, false≢true, true≢false}
use Rattle.asset_names.specs.declared.names.Txn.{Txn}
use Rattle.asset_names.specs.declared.operations.Op.TheVariants as Op'
use Rattle.asset_names.specs.declared.statuses.Status.{Status}
use Rattle.asset_names.specs.declared.statuses.Status.TheVariants as Status'
use Rattle.asset_names.specs.declared.steps.Step.{Step}
use Rattle.asset_names.specs.declared.steps.Step.TheVariants.{Initiate, Begin, Read, Write, Add, Complete, Permit, PermitAny, Delegate, Depend, Commit, Abort, WaitFor}
use Rattle.asset_names.specs.declared.replies.Reply.{Reply}
use Rattle.asset_names.specs.declared.replies.Reply.TheVariants as Reply'
use Rattle.asset_names.specs.declared.replies.Outcome.{Outcome}
use Rattle.asset_names.specs.declared.replies.Outcome.TheVariants.{Answer, Wait}
use Rattle.asset_names.specs.Steps.{Opening}
use Rattle.asset_names.specs.Endings.{status}
use Rattle.asset_names.specs.Operations.{free, value}
use Rattle.asset_names.specs.Answers.{Rule, rules_for, first_refusal, may_commit, commit_outcome, wait_outcome, unrefused, outcome_unless, answer, unknown, ended, not_running, taken, begun_before, too_late, no_object, one_name, cycle, missing_in, missing_rule, no_object_of}
use Rattle.asset_names.specs.declared.names.Ob.{Ob}
use Rattle.asset_names.specs.declared.sets.ObSet.{ObSet}
use Rattle.asset_names.specs.declared.sets.ObSet.TheVariants.{All, Listed}
use Rattle.asset_names.specs.declared.replies.Refusal.TheVariants as Refusal'
use Rattle.asset_names.specs.Sets.{no_object_name}
use Rattle.asset_entries.specs.declared.reply_tag.ReplyTag.{ReplyTag}
use Rattle.asset_entries.specs.declared.reply_tag.ReplyTag.TheVariants as ReplyTag'
use Rattle.asset_entries.specs.Stored.{tag_of, tag_of_two, value_read, reply_about, reply_of_name, reply_of_two, position, missing_at, object_at}

-- a reply to a step of two transactions and a set, made again from its tag and what the step names
unfoldable pub again_of_two : Txn → Txn → ObSet → Reply → Reply
again_of_two giver taker obs reply = reply_of_two giver taker (object_at obs (missing_at obs reply)) (tag_of_two giver reply)

-- a reply to the step, made again from its tag and what the step names
unfoldable pub again : Step → Reply → Reply
again (Initiate t parent) reply = reply_of_name t (tag_of reply)
again (Begin t) reply = reply_of_name t (tag_of reply)
again (Read t x) reply = reply_about t x (value_read reply) (tag_of reply)
again (Write t x v) reply = reply_about t x (pos 0) (tag_of reply)
again (Add t x d) reply = reply_about t x (pos 0) (tag_of reply)
again (Complete t) reply = reply_of_name t (tag_of reply)
again (Permit giver taker obs ops) reply = again_of_two giver taker obs reply
again (PermitAny giver obs ops) reply = again_of_two giver giver (Listed obs) reply
again (Delegate giver taker obs) reply = again_of_two giver taker obs reply
again (Depend kind a b) reply = reply_of_two a b no_object_name (tag_of_two a reply)
again (Commit t) reply = reply_of_name t (tag_of reply)
again (Abort t) reply = reply_of_name t (tag_of reply)
again (WaitFor t) reply = reply_of_name t (tag_of reply)

-- each refusal that applies is the same when it is made again
AreSame : (Reply → Reply) → List Rule → Type 0
AreSame make [] = Unit {0}
AreSame make (rule ∷ rules) = (rule.0 ≡ true → make (Reply'.Refused rule.1) ≡ Reply'.Refused rule.1) × AreSame make rules

-- the reply is the same when it is made again, if there is one
IsSame : (Reply → Reply) → Outcome → Type 0
IsSame make (Answer reply) = make reply ≡ reply
IsSame make Wait = Unit {0}

same_unless : (make : Reply → Reply) (rules : List Rule) (outcome : Outcome) → AreSame make rules → IsSame make outcome → IsSame make (outcome_unless (first_refusal rules) outcome)
unfolding outcome_unless first_refusal AreSame IsSame
same_unless make [] outcome refusals same = same
same_unless make (rule ∷ rules) outcome refusals same = go rule.0 refl (same_unless make rules outcome refusals.1 same) where
  go : (applies : Bool) → rule.0 ≡ applies → IsSame make (outcome_unless (first_refusal rules) outcome) → IsSame make (outcome_unless (cond applies (Some rule.1) (first_refusal rules)) outcome)
  go true e later = refusals.0 e
  go false e later = later

-- a reply that may still have to wait
same_if : (make : Reply → Reply) (ready : Bool) (reply : Reply) → make reply ≡ reply → IsSame make (cond ready (Answer reply) Wait)
unfolding IsSame
same_if make true reply same = same
same_if make false reply same = tt

-- an object that is found in a list stands at its position
found_at : (test : Ob → Bool) (objects : List Ob) (x : Ob) → find test objects ≡ Some x → unwrap_or (slice_get objects (position x objects)) no_object_name ≡ x
unfolding position
found_at test [] x found = cc
found_at test (y ∷ objects) x found = by_test (test y) found (found_at test objects x) where
  one_name : eqb y.0 x.0 ≡ true → y ≡ x
  one_name e = λ i. record { 0 = eqb-true y.0 x.0 e i }

  here : (same : Bool) → eqb y.0 x.0 ≡ same → (same ≡ false → unwrap_or (slice_get objects (position x objects)) no_object_name ≡ x)
      → unwrap_or (slice_get (y ∷ objects) (cond same 0 (suc (position x objects)))) no_object_name ≡ x
  here true e later = one_name e
  here false e later = later refl

  by_test : (passes : Bool) → cond passes (Some y) (find test objects) ≡ Some x → (find test objects ≡ Some x → unwrap_or (slice_get objects (position x objects)) no_object_name ≡ x)
      → unwrap_or (slice_get (y ∷ objects) (cond (eqb y.0 x.0) 0 (suc (position x objects)))) no_object_name ≡ x
  by_test true is later = let same : y ≡ x = cc in here (eqb y.0 x.0) refl (λ other. absurd (true≢false (sym (eq-eqb y.0 x.0 (ap (λ (o : Ob). o.0) same)) ∙ other)))
  by_test false is later = here (eqb y.0 x.0) refl (λ other. later is)

missing_same : (opening : Opening) (giver taker : Txn) (obs : ObSet) (missing : Option Ob) → missing_in opening obs ≡ missing → (missing_rule missing).0 ≡ true
    → again_of_two giver taker obs (Reply'.Refused (missing_rule missing).1) ≡ Reply'.Refused (missing_rule missing).1
unfolding missing_in missing_rule again_of_two tag_of_two tag_of reply_of_two reply_about missing_at object_at
missing_same opening giver taker obs None is applies = absurd (false≢true applies)
missing_same opening giver taker All (Some x) is applies = cc
missing_same opening giver taker (Listed objects) (Some x) is applies = ap (λ y. Reply'.Refused (Refusal'.NoObject y)) (found_at _ objects x is)

-- a refusal that is about the first of two transactions is found again, whatever tag it would have about the second
about_first : (first second : Txn) (x : Ob) (own other : ReplyTag) (refused : Txn → Reply) → reply_of_two first second x own ≡ refused first
    → reply_of_two first second x (cond (eqb first.0 first.0) own other) ≡ refused first
about_first first second x own other refused is = rw (eq-eqb first.0 first.0 refl) is

-- a refusal that is about the second is found again by its tag, or by that about the first if the two are one
about_second : (first second : Txn) (x : Ob) (own other : ReplyTag) (refused : Txn → Reply) → reply_of_two first second x own ≡ refused first
    → reply_of_two first second x other ≡ refused second → reply_of_two first second x (cond (eqb second.0 first.0) own other) ≡ refused second
about_second first second x own other refused of_first of_second = go (eqb second.0 first.0) refl where
  go : (same : Bool) → eqb second.0 first.0 ≡ same → reply_of_two first second x (cond same own other) ≡ refused second
  go true e = of_first ∙ (λ i. refused (record { 0 = sym (eqb-true second.0 first.0 e) i }))
  go false e = of_second

one_name_same : (giver taker : Txn) (obs : ObSet) → again_of_two giver taker obs (Reply'.Refused Refusal'.Same) ≡ Reply'.Refused Refusal'.Same
unfolding again_of_two tag_of_two tag_of reply_of_two reply_about
one_name_same giver taker obs = refl

-- the refusals of a step of two transactions and a set
two_same : (opening : Opening) (steps : List Step) (giver taker : Txn) (obs : ObSet)
    → AreSame (again_of_two giver taker obs) (one_name giver taker ∷ unknown steps giver ∷ unknown steps taker ∷ ended steps giver ∷ ended steps taker ∷ no_object_of opening obs ∷ [])
unfolding AreSame again_of_two unknown ended one_name no_object_of tag_of tag_of_two reply_about reply_of_two
two_same opening steps giver taker obs = (
  λ _. one_name_same giver taker obs,
  (
    λ _. about_first giver taker _ ReplyTag'.Unknown ReplyTag'.SecondUnknown (λ t. Reply'.Refused (Refusal'.Unknown t)) refl,
    (
      λ _. about_second giver taker _ ReplyTag'.Unknown ReplyTag'.SecondUnknown (λ t. Reply'.Refused (Refusal'.Unknown t)) refl refl,
      (
        λ _. about_first giver taker _ ReplyTag'.Ended ReplyTag'.SecondEnded (λ t. Reply'.Refused (Refusal'.Ended t)) refl,
        (
          λ _. about_second giver taker _ ReplyTag'.Ended ReplyTag'.SecondEnded (λ t. Reply'.Refused (Refusal'.Ended t)) refl refl,
          (λ applies. missing_same opening giver taker obs (missing_in opening obs) refl applies, tt),
        ),
      ),
    ),
  ),
)

-- the refusals of a step of one transaction and a set
open_same : (opening : Opening) (steps : List Step) (giver : Txn) (obs : ObSet)
    → AreSame (again_of_two giver giver obs) (unknown steps giver ∷ ended steps giver ∷ no_object_of opening obs ∷ [])
unfolding AreSame again_of_two unknown ended no_object_of tag_of tag_of_two reply_about reply_of_two
open_same opening steps giver obs = (
  λ _. about_first giver giver _ ReplyTag'.Unknown ReplyTag'.SecondUnknown (λ t. Reply'.Refused (Refusal'.Unknown t)) refl,
  (
    λ _. about_first giver giver _ ReplyTag'.Ended ReplyTag'.SecondEnded (λ t. Reply'.Refused (Refusal'.Ended t)) refl,
    (λ applies. missing_same opening giver giver obs (missing_in opening obs) refl applies, tt),
  ),
)

refusals_same : (opening : Opening) (steps : List Step) (step : Step) → AreSame (again step) (rules_for opening steps step)
unfolding AreSame again rules_for unknown ended not_running taken begun_before too_late no_object one_name cycle no_object_of tag_of tag_of_two reply_about reply_of_name reply_of_two
refusals_same opening steps (Initiate t parent) = (λ _. refl, tt)
refusals_same opening steps (Begin t) = (λ _. refl, (λ _. refl, (λ _. refl, tt)))
refusals_same opening steps (Read t x) = (λ _. refl, (λ _. refl, (λ _. refl, (λ _. refl, tt))))
refusals_same opening steps (Write t x v) = (λ _. refl, (λ _. refl, (λ _. refl, (λ _. refl, tt))))
refusals_same opening steps (Add t x d) = (λ _. refl, (λ _. refl, (λ _. refl, (λ _. refl, tt))))
refusals_same opening steps (Complete t) = (λ _. refl, (λ _. refl, (λ _. refl, tt)))
refusals_same opening steps (Permit giver taker obs ops) = two_same opening steps giver taker obs
refusals_same opening steps (PermitAny giver obs ops) = open_same opening steps giver (Listed obs)
refusals_same opening steps (Delegate giver taker obs) = two_same opening steps giver taker obs
refusals_same opening steps (Depend kind a b) = (
  λ _. refl,
  (
    λ _. about_first a b _ ReplyTag'.Unknown ReplyTag'.SecondUnknown (λ t. Reply'.Refused (Refusal'.Unknown t)) refl,
    (
      λ _. about_second a b _ ReplyTag'.Unknown ReplyTag'.SecondUnknown (λ t. Reply'.Refused (Refusal'.Unknown t)) refl refl,
      (
        λ _. about_first a b _ ReplyTag'.Ended ReplyTag'.SecondEnded (λ t. Reply'.Refused (Refusal'.Ended t)) refl,
        (
          λ _. about_second a b _ ReplyTag'.Ended ReplyTag'.SecondEnded (λ t. Reply'.Refused (Refusal'.Ended t)) refl refl,
          (λ _. refl, tt),
        ),
      ),
    ),
  ),
)
refusals_same opening steps (Commit t) = (λ _. refl, tt)
refusals_same opening steps (Abort t) = (λ _. refl, (λ _. refl, tt))
refusals_same opening steps (WaitFor t) = (λ _. refl, tt)

commit_same : (t : Txn) (now : Status) (ready : Bool) → IsSame (λ reply. reply_of_name t (tag_of reply)) (commit_outcome now ready)
unfolding IsSame commit_outcome tag_of reply_about reply_of_name
commit_same t Status'.Committed ready = refl
commit_same t Status'.Aborted ready = refl
commit_same t Status'.Unknown ready = same_if _ ready _ refl
commit_same t Status'.Initiated ready = same_if _ ready _ refl
commit_same t Status'.Running ready = same_if _ ready _ refl
commit_same t Status'.Completed ready = same_if _ ready _ refl

wait_same : (t : Txn) (now : Status) → IsSame (λ reply. reply_of_name t (tag_of reply)) (wait_outcome now)
unfolding IsSame wait_outcome tag_of reply_about reply_of_name
wait_same t Status'.Completed = refl
wait_same t Status'.Committed = refl
wait_same t Status'.Aborted = refl
wait_same t Status'.Unknown = tt
wait_same t Status'.Initiated = tt
wait_same t Status'.Running = tt

unrefused_same : (opening : Opening) (steps : List Step) (step : Step) → IsSame (again step) (unrefused opening steps step)
unfolding IsSame again again_of_two unrefused tag_of tag_of_two value_read reply_about reply_of_name reply_of_two
unrefused_same opening steps (Initiate t parent) = refl
unrefused_same opening steps (Begin t) = refl
unrefused_same opening steps (Read t x) = same_if _ (free steps t.0 x.0 Op'.Read) (Reply'.Value (value opening steps x.0)) refl
unrefused_same opening steps (Write t x v) = same_if _ (free steps t.0 x.0 Op'.Write) Reply'.Done refl
unrefused_same opening steps (Add t x d) = same_if _ (free steps t.0 x.0 Op'.Add) Reply'.Done refl
unrefused_same opening steps (Complete t) = refl
unrefused_same opening steps (Permit giver taker obs ops) = refl
unrefused_same opening steps (PermitAny giver obs ops) = refl
unrefused_same opening steps (Delegate giver taker obs) = refl
unrefused_same opening steps (Depend kind a b) = refl
unrefused_same opening steps (Commit t) = commit_same t (status steps t.0) (may_commit steps t.0)
unrefused_same opening steps (Abort t) = refl
unrefused_same opening steps (WaitFor t) = wait_same t (status steps t.0)

-- the answer to a step is the same when it is made again
pub made_again : (opening : Opening) (steps : List Step) (step : Step) (reply : Reply) → answer opening steps step ≡ Answer reply → again step reply ≡ reply
unfolding answer IsSame
made_again opening steps step reply is =
    subst (IsSame (again step)) is (same_unless (again step) (rules_for opening steps step) (unrefused opening steps step) (refusals_same opening steps step) (unrefused_same opening steps step))
