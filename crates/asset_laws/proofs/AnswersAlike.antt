-- A kept step is answered alike after some of the steps and after all of them.
use Rattle.std.proofs.Common.{◌≡◌, ℕ, ℤ, Bool, true, false, cond, not, eqb, ◌&&◌, List, [], ◌∷◌, filter, refl, sym, ◌∙◌, None, Some}
use Rattle.std.specs.Prelude.{Option}
use Rattle.std.specs.List.{list_any}
use Rattle.std.proofs.lemmas.Bool.{or_left, or_right, or_parts, eq-eqb, false≢true, not-true}
use Rattle.asset_names.specs.declared.names.Txn.{Txn}
use Rattle.asset_names.specs.declared.names.Ob.{Ob}
use Rattle.asset_names.specs.declared.operations.Op.{Op}
use Rattle.asset_names.specs.declared.operations.Op.TheVariants as Op'
use Rattle.asset_names.specs.declared.statuses.End.{End}
use Rattle.asset_names.specs.declared.statuses.End.TheVariants as End'
use Rattle.asset_names.specs.declared.steps.Step.{Step}
use Rattle.asset_names.specs.declared.steps.Step.TheVariants.{Initiate, Begin, Read, Write, Add, Complete, Permit, PermitAny, Delegate, Depend, Commit, Abort, WaitFor}
use Rattle.asset_names.specs.declared.replies.Refusal.{Refusal}
use Rattle.asset_names.specs.declared.replies.Reply.{Reply}
use Rattle.asset_names.specs.declared.replies.Reply.TheVariants as Reply'
use Rattle.asset_names.specs.declared.replies.Outcome.{Outcome}
use Rattle.asset_names.specs.declared.replies.Outcome.TheVariants.{Answer, Wait}
use Rattle.asset_names.specs.Arrows.{lists}
use Rattle.asset_names.specs.Steps.{Opening, takes_effect, initiated}
use Rattle.asset_names.specs.Endings.{end_of, live}
use Rattle.asset_names.specs.Groups.{actor, partner, operates_on, was_committed}
use Rattle.asset_names.specs.Operations.{Use, reads, writes, adds, Operation, op_of, conflict, operations, openers, allows, blocks, free, was_aborted, stands, opening_value, after_use, value_after, value}
use Rattle.asset_names.specs.Answers.{unknown, ended, not_running, taken, begun_before, too_late, cycle, rules_for, first_refusal, unrefused, outcome_unless, answer}
use Rattle.asset_names.specs.Orderly.{IsOrderly}
use Rattle.asset_names.proofs.Common.{cond_same}
use Rattle.asset_laws.proofs.KeepLinks.{other_name}
use Rattle.asset_laws.proofs.AlikeLemmas.{IsAlike, owned, status_alike, would_cycle_alike, may_commit_alike, allows_keeps, free_alike}

-- nobody who is not kept has committed
abbrev pub Uncommitted : (ℕ → Bool) → List Step → Type 0
Uncommitted keep steps = (n : ℕ) → keep n ≡ false → was_committed (end_of steps n) ≡ false

-- where a step that takes effect operates on an object, its openers are kept as the transaction that asks for it
abbrev pub OpensTo : (ℕ → Bool) → Step → Reply → List Step → Type 0
OpensTo keep step reply steps = takes_effect step reply ≡ true → (x a : ℕ) (op : Op) → operates_on step x ≡ true → lists (openers steps x op) a ≡ true → keep a ≡ keep (actor step).0

-- ---- values

-- a write or an add of a transaction that is not kept, on an object that is free for a kept one to read, has been undone
undone : (keep : ℕ → Bool) (some all : List Step) → IsAlike keep some all → Uncommitted keep all → (t x : ℕ) → keep t ≡ true → ((a : ℕ) → lists (openers all x Op'.Read) a ≡ true → keep a ≡ keep t) → (o : Operation) → conflict (op_of o.use_of) Op'.Read ≡ true
    → keep o.owner ≡ false → eqb o.object x ≡ true → blocks all t x Op'.Read o ≡ false → lists (initiated all) o.owner ≡ true → stands all o ≡ false
unfolding blocks stands live was_aborted was_committed
undone keep some all alike uncommitted t x stays opens o conflicts gone here clear known =
    by (end_of all o.owner) refl (uncommitted o.owner gone) where
      not_allowed : allows all o.owner t x Op'.Read ≡ false
      not_allowed = go (allows all o.owner t x Op'.Read) refl where
        go : (b : Bool) → allows all o.owner t x Op'.Read ≡ b → b ≡ false
        go false e = refl
        go true e = absurd (false≢true (sym gone ∙ allows_keeps keep all x Op'.Read (alike.permits_keep x Op'.Read) o.owner t opens e ∙ stays))

      by : (end : Option End) → end_of all o.owner ≡ end → was_committed end ≡ false → not (was_aborted end) ≡ false
      by None e none = absurd (false≢true (sym clear ∙ rw (here, conflicts, other_name keep o.owner t gone stays, known, e, not_allowed) refl))
      by (Some End'.Committed) e none = absurd (false≢true (sym none))
      by (Some End'.Aborted) e none = refl

stands_alike : (keep : ℕ → Bool) (some all : List Step) → IsAlike keep some all → (o : Operation) → keep o.owner ≡ true → stands some o ≡ stands all o
unfolding stands
stands_alike keep some all alike o stays = rw (alike.ends_alike o.owner stays) refl

-- the value after the kept operations is the value after all of them
value_filtered : (keep : ℕ → Bool) (some all : List Step) → IsAlike keep some all → Uncommitted keep all → (t x : ℕ) → keep t ≡ true → ((a : ℕ) → lists (openers all x Op'.Read) a ≡ true → keep a ≡ keep t) → (first : ℤ) (os : List Operation)
    → list_any (blocks all t x Op'.Read) os ≡ false → ((n : ℕ) → list_any (λ (o : Operation). eqb o.owner n) os ≡ true → lists (initiated all) n ≡ true)
    → value_after (stands some) x first (filter (owned keep) os) ≡ value_after (stands all) x first os
unfolding owned value_after after_use op_of conflict
value_filtered keep some all alike uncommitted t x stays opens first [] clear known = refl
value_filtered keep some all alike uncommitted t x stays opens first (o ∷ os) clear known =
    go (keep o.owner) refl (value_filtered keep some all alike uncommitted t x stays opens first os parts.1 (λ n owns. known n (or_right (eqb o.owner n) _ owns))) where
      parts : (blocks all t x Op'.Read o ≡ false) × (list_any (blocks all t x Op'.Read) os ≡ false)
      parts = or_parts (blocks all t x Op'.Read o) _ clear

      Ih : Type 0
      Ih = value_after (stands some) x first (filter (owned keep) os) ≡ value_after (stands all) x first os

      skipped : (on : Bool) → eqb o.object x ≡ on → keep o.owner ≡ false → (how : Use) → o.use_of ≡ how
          → cond (on && stands all o) (after_use how (value_after (stands all) x first os)) (value_after (stands all) x first os) ≡ value_after (stands all) x first os
      skipped false e gone how is = refl
      skipped true e gone reads is = cond_same (stands all o) (value_after (stands all) x first os)
      skipped true e gone (writes v) is = rw (undone keep some all alike uncommitted t x stays opens o (rw (is) refl) gone e parts.0 (known o.owner (or_left _ _ (eq-eqb o.owner o.owner refl)))) refl
      skipped true e gone (adds d) is = rw (undone keep some all alike uncommitted t x stays opens o (rw (is) refl) gone e parts.0 (known o.owner (or_left _ _ (eq-eqb o.owner o.owner refl)))) refl

      go : (here : Bool) → keep o.owner ≡ here → Ih → value_after (stands some) x first (cond here (o ∷ filter (owned keep) os) (filter (owned keep) os)) ≡ value_after (stands all) x first (o ∷ os)
      go true e ih = rw (stands_alike keep some all alike o e, ih) refl
      go false e ih = ih ∙ sym (skipped (eqb o.object x) refl e o.use_of refl)

pub value_alike : (keep : ℕ → Bool) (some all : List Step) → IsAlike keep some all → Uncommitted keep all → IsOrderly all → (opening : Opening) (t x : ℕ) → keep t ≡ true → ((a : ℕ) → lists (openers all x Op'.Read) a ≡ true → keep a ≡ keep t)
    → free all t x Op'.Read ≡ true → value opening some x ≡ value opening all x
unfolding value free
value_alike keep some all alike uncommitted orderly opening t x stays opens is_free =
    rw (alike.operations_alike) (value_filtered keep some all alike uncommitted t x stays opens (opening_value opening x) (operations all) (not-true _ is_free) orderly.owners_known)

-- ---- answers

-- the refusals of a kept step are the same
pub rules_alike : (keep : ℕ → Bool) (some all : List Step) → IsAlike keep some all → (opening : Opening) (step : Step) → keep (actor step).0 ≡ true → keep (partner step).0 ≡ true
    → rules_for opening some step ≡ rules_for opening all step
unfolding rules_for unknown ended not_running taken begun_before too_late cycle actor partner
rules_alike keep some all alike opening (Initiate t parent) one other = rw (status_alike keep some all alike t.0 one) refl
rules_alike keep some all alike opening (Begin t) one other = rw (status_alike keep some all alike t.0 one) refl
rules_alike keep some all alike opening (Read t x) one other = rw (status_alike keep some all alike t.0 one) refl
rules_alike keep some all alike opening (Write t x v) one other = rw (status_alike keep some all alike t.0 one) refl
rules_alike keep some all alike opening (Add t x d) one other = rw (status_alike keep some all alike t.0 one) refl
rules_alike keep some all alike opening (Complete t) one other = rw (status_alike keep some all alike t.0 one) refl
rules_alike keep some all alike opening (Permit giver taker obs ops) one other = rw (status_alike keep some all alike giver.0 one, status_alike keep some all alike taker.0 other) refl
rules_alike keep some all alike opening (Delegate giver taker obs) one other = rw (status_alike keep some all alike giver.0 one, status_alike keep some all alike taker.0 other) refl
rules_alike keep some all alike opening (Depend kind a b) one other =
    rw (status_alike keep some all alike a.0 one, status_alike keep some all alike b.0 other, would_cycle_alike keep some all alike kind a.0 b.0 one other) refl
rules_alike keep some all alike opening (Commit t) one other = rw (status_alike keep some all alike t.0 one) refl
rules_alike keep some all alike opening (Abort t) one other = rw (status_alike keep some all alike t.0 one) refl
rules_alike keep some all alike opening (WaitFor t) one other = rw (status_alike keep some all alike t.0 one) refl
rules_alike keep some all alike opening (PermitAny giver obs ops) one other = rw (status_alike keep some all alike giver.0 one) refl

-- whoever was answered did not wait
pub not_waiting : (is_free : Bool) (outcome : Outcome) (reply : Reply) → cond is_free outcome Wait ≡ Answer reply → is_free ≡ true
not_waiting true outcome reply h = refl
not_waiting false outcome reply h = cc

-- a read that is answered by a value takes effect
pub value_effect : (t : Txn) (x : Ob) (v : ℤ) (reply : Reply) → Answer (Reply'.Value v) ≡ Answer reply → takes_effect (Read t x) reply ≡ true
unfolding takes_effect
value_effect t x v (Reply'.Value w) h = refl
value_effect t x v Reply'.Done h = cc
value_effect t x v Reply'.Committed h = cc
value_effect t x v Reply'.Aborted h = cc
value_effect t x v (Reply'.Refused refusal) h = cc

-- what a kept step that is not refused is answered
unrefused_alike : (keep : ℕ → Bool) (some all : List Step) → IsAlike keep some all → Uncommitted keep all → IsOrderly all → (opening : Opening) (step : Step) (reply : Reply) → keep (actor step).0 ≡ true → OpensTo keep step reply all
    → unrefused opening all step ≡ Answer reply → unrefused opening some step ≡ Answer reply
unfolding unrefused actor operates_on
unrefused_alike keep some all alike uncommitted orderly opening (Initiate t parent) reply stays opens is = is
unrefused_alike keep some all alike uncommitted orderly opening (Begin t) reply stays opens is = is
unrefused_alike keep some all alike uncommitted orderly opening (Read t x) reply stays opens is =
    let is_free = not_waiting (free all t.0 x.0 Op'.Read) _ reply is in
    let value : Answer (Reply'.Value (value opening all x.0)) ≡ Answer reply = rw is_free at is in
    let open_to : (a : ℕ) → lists (openers all x.0 Op'.Read) a ≡ true → keep a ≡ keep t.0 = λ a listed. opens (value_effect t x _ reply value) x.0 a Op'.Read (eq-eqb x.0 x.0 refl) listed in
    rw (free_alike keep some all alike t.0 x.0 Op'.Read stays is_free, value_alike keep some all alike uncommitted orderly opening t.0 x.0 stays open_to is_free) value
unrefused_alike keep some all alike uncommitted orderly opening (Write t x v) reply stays opens is =
    let is_free = not_waiting (free all t.0 x.0 Op'.Write) _ reply is in
    rw (free_alike keep some all alike t.0 x.0 Op'.Write stays is_free) (rw is_free at is)
unrefused_alike keep some all alike uncommitted orderly opening (Add t x d) reply stays opens is =
    let is_free = not_waiting (free all t.0 x.0 Op'.Add) _ reply is in
    rw (free_alike keep some all alike t.0 x.0 Op'.Add stays is_free) (rw is_free at is)
unrefused_alike keep some all alike uncommitted orderly opening (Complete t) reply stays opens is = is
unrefused_alike keep some all alike uncommitted orderly opening (Permit giver taker obs ops) reply stays opens is = is
unrefused_alike keep some all alike uncommitted orderly opening (Delegate giver taker obs) reply stays opens is = is
unrefused_alike keep some all alike uncommitted orderly opening (Depend kind a b) reply stays opens is = is
unrefused_alike keep some all alike uncommitted orderly opening (Commit t) reply stays opens is = rw (status_alike keep some all alike t.0 stays, may_commit_alike keep some all alike t.0 stays) is
unrefused_alike keep some all alike uncommitted orderly opening (Abort t) reply stays opens is = is
unrefused_alike keep some all alike uncommitted orderly opening (WaitFor t) reply stays opens is = rw (status_alike keep some all alike t.0 stays) is
unrefused_alike keep some all alike uncommitted orderly opening (PermitAny giver obs ops) reply stays opens is = is

pub answer_alike : (keep : ℕ → Bool) (some all : List Step) → IsAlike keep some all → Uncommitted keep all → IsOrderly all → (opening : Opening) (step : Step) (reply : Reply)
    → keep (actor step).0 ≡ true → keep (partner step).0 ≡ true → OpensTo keep step reply all → answer opening all step ≡ Answer reply → answer opening some step ≡ Answer reply
unfolding answer outcome_unless
answer_alike keep some all alike uncommitted orderly opening step reply one other opens is =
    rw (rules_alike keep some all alike opening step one other) (go (first_refusal (rules_for opening all step)) is) where
      go : (first : Option Refusal) → outcome_unless first (unrefused opening all step) ≡ Answer reply → outcome_unless first (unrefused opening some step) ≡ Answer reply
      go None h = unrefused_alike keep some all alike uncommitted orderly opening step reply one opens h
      go (Some refusal) h = h
