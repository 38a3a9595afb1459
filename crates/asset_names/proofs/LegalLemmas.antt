-- What a legal history says of the steps that took effect in it.
use Rattle.std.proofs.Common.{◌≡◌, ℕ, Bool, true, false, cond, eqb, ◌&&◌, List, [], ◌∷◌, ◌++◌, Some, None, refl, sym, ◌∙◌, ap, subst, ◌⊎◌, inl, inr}
use Rattle.std.specs.Prelude.{ℤ, Option, is_none, is_some}
use Rattle.std.proofs.lemmas.Bool.{or_cases, or_right, and_parts, eqb-true, not-false, false≢true}
use Rattle.asset_names.specs.declared.names.Txn.{Txn}
use Rattle.asset_names.specs.declared.names.Ob.{Ob}
use Rattle.asset_names.specs.declared.operations.Op.{Op}
use Rattle.asset_names.specs.declared.sets.ObSet.{ObSet}
use Rattle.asset_names.specs.declared.sets.ObSet.TheVariants.{Listed}
use Rattle.asset_names.specs.InSet.{in_set}
use Rattle.asset_names.specs.Operations.{operations, operated, permits, permitted_by, openers, opened_by, holds_object}
use Rattle.asset_names.specs.OpSets.{has_op, OpSet}
use Rattle.std.specs.List.{list_any}
use Rattle.asset_names.specs.declared.statuses.End.{End}
use Rattle.asset_names.specs.declared.statuses.End.TheVariants as End'
use Rattle.asset_names.specs.declared.steps.Kind.{Kind}
use Rattle.asset_names.specs.declared.steps.Step.{Step}
use Rattle.asset_names.specs.declared.steps.Step.TheVariants.{Initiate, Begin, Read, Write, Add, Complete, Permit, PermitAny, Delegate, Depend, Commit, Abort, WaitFor}
use Rattle.asset_names.specs.declared.replies.Refusal.{Refusal}
use Rattle.asset_names.specs.declared.replies.Reply.{Reply}
use Rattle.asset_names.specs.declared.replies.Reply.TheVariants as Reply'
use Rattle.asset_names.specs.declared.replies.Outcome.TheVariants.{Answer}
use Rattle.asset_names.specs.Arrows.{Arrow, lists, has_arrow}
use Rattle.asset_names.specs.Steps.{Opening, Entry, takes_effect, applied, initiated, initiated_by, begun, begun_by, completed, completed_by}
use Rattle.asset_names.specs.Endings.{dependency_by, dependencies, would_cycle, ended_by, end_of, live, status, status_of}
use Rattle.asset_names.specs.Answers.{Rule, is_unknown, has_ended, is_running, unknown, ended, not_running, one_name, taken, no_object_of, cycle, rules_for, first_refusal, unrefused, outcome_unless, answer, IsLegal}
use Rattle.asset_names.proofs.Common.{option_or_none}
use Rattle.asset_names.proofs.DelegateLemmas.{owner_handed, delegate_arrow}
use Rattle.asset_names.proofs.DependLemmas.{depend_arrow}
use Rattle.asset_names.proofs.EndLemmas.{live_parts, commits, aborts, commits_live, aborts_live, commit_ends, abort_ends}
use Rattle.asset_names.specs.Orderly.{IsOrderly}

-- a step that got a reply by which it took effect was not refused
pub effect_unrefused : (opening : Opening) (steps : List Step) (step : Step) (reply : Reply) → answer opening steps step ≡ Answer reply → takes_effect step reply ≡ true
    → first_refusal (rules_for opening steps step) ≡ None
unfolding answer outcome_unless takes_effect
effect_unrefused opening steps step reply is carried = go (first_refusal (rules_for opening steps step)) refl is where
  never : (step : Step) (refusal : Refusal) → takes_effect step (Reply'.Refused refusal) ≡ false
  never (Initiate t parent) refusal = refl
  never (Begin t) refusal = refl
  never (Read t x) refusal = refl
  never (Write t x v) refusal = refl
  never (Add t x d) refusal = refl
  never (Complete t) refusal = refl
  never (Permit giver taker obs ops) refusal = refl
  never (Delegate giver taker obs) refusal = refl
  never (Depend kind a b) refusal = refl
  never (Commit t) refusal = refl
  never (Abort t) refusal = refl
  never (WaitFor t) refusal = refl
  never (PermitAny giver obs ops) refusal = refl

  go : (first : Option Refusal) → first_refusal (rules_for opening steps step) ≡ first → outcome_unless first (unrefused opening steps step) ≡ Answer reply → first ≡ None
  go None e is = refl
  go (Some refusal) e is =
      let same : Reply'.Refused refusal ≡ reply = cc in
      absurd (false≢true (sym (never step refusal) ∙ ap (takes_effect step) same ∙ carried))

-- where no rule applies, the first does not, and none of the others does
pub first_none : (rule : Rule) (rules : List Rule) → first_refusal (rule ∷ rules) ≡ None → (rule.0 ≡ false) × (first_refusal rules ≡ None)
unfolding first_refusal
first_none rule rules h = go rule.0 refl h where
  go : (applies : Bool) → rule.0 ≡ applies → cond applies (Some rule.1) (first_refusal rules) ≡ None → (applies ≡ false) × (first_refusal rules ≡ None)
  go true e h = cc
  go false e h = (refl, h)

-- who is unknown was not initiated
pub unknown_uninitiated : (steps : List Step) (t : ℕ) → is_unknown (status steps t) ≡ true → lists (initiated steps) t ≡ false
unfolding status status_of is_unknown
unknown_uninitiated steps t = go (lists (initiated steps) t) (lists (begun steps) t) (lists (completed steps) t) (end_of steps t) where
  go : (i b c : Bool) (e : Option End) → is_unknown (status_of i b c e) ≡ true → i ≡ false
  go false b c e h = refl
  go true b c (Some End'.Committed) h = sym h
  go true b c (Some End'.Aborted) h = sym h
  go true b true None h = sym h
  go true true false None h = sym h
  go true false false None h = sym h

-- who is not unknown was initiated
pub known_initiated : (steps : List Step) (t : ℕ) → is_unknown (status steps t) ≡ false → lists (initiated steps) t ≡ true
unfolding status is_unknown status_of
known_initiated steps t = go (lists (initiated steps) t) (lists (begun steps) t) (lists (completed steps) t) (end_of steps t) where
  go : (i b c : Bool) (e : Option End) → is_unknown (status_of i b c e) ≡ false → i ≡ true
  go true b c e h = refl
  go false b c e h = sym h

-- who is running was initiated, has not completed and has not ended
pub running_parts : (steps : List Step) (t : ℕ) → is_running (status steps t) ≡ true → (lists (initiated steps) t ≡ true) × (lists (completed steps) t ≡ false) × (end_of steps t ≡ None)
unfolding status status_of is_running
running_parts steps t = go (lists (initiated steps) t) (lists (begun steps) t) (lists (completed steps) t) (end_of steps t) where
  go : (i b c : Bool) (e : Option End) → is_running (status_of i b c e) ≡ true → (i ≡ true) × (c ≡ false) × (e ≡ None)
  go false b c e h = absurd (false≢true h)
  go true b c (Some End'.Committed) h = absurd (false≢true h)
  go true b c (Some End'.Aborted) h = absurd (false≢true h)
  go true b true None h = absurd (false≢true h)
  go true true false None h = (refl, refl, refl)
  go true false false None h = absurd (false≢true h)

-- a name is initiated only where it was not, and completes only where it runs
pub initiate_new : (opening : Opening) (steps : List Step) (t : Txn) (parent : Option Txn) (reply : Reply) → answer opening steps (Initiate t parent) ≡ Answer reply → takes_effect (Initiate t parent) reply ≡ true
    → lists (initiated steps) t.0 ≡ false
unfolding rules_for taken
initiate_new opening steps t parent reply is carried =
    unknown_uninitiated steps t.0 (not-false _ ((first_none (taken steps t) [] (effect_unrefused opening steps (Initiate t parent) reply is carried)).0))

pub complete_runs : (opening : Opening) (steps : List Step) (t : Txn) (reply : Reply) → answer opening steps (Complete t) ≡ Answer reply → takes_effect (Complete t) reply ≡ true
    → is_running (status steps t.0) ≡ true
unfolding rules_for not_running
complete_runs opening steps t reply is carried =
    let first = first_none (unknown steps t) _ (effect_unrefused opening steps (Complete t) reply is carried) in
    let second = first_none (ended steps t) _ first.1 in
    not-false _ ((first_none (not_running steps t) [] second.1).0)

-- a transaction begins only where it was initiated
pub begin_known : (opening : Opening) (steps : List Step) (t : Txn) (reply : Reply) → answer opening steps (Begin t) ≡ Answer reply → takes_effect (Begin t) reply ≡ true
    → lists (initiated steps) t.0 ≡ true
unfolding rules_for unknown
begin_known opening steps t reply is carried =
    known_initiated steps t.0 (first_none (unknown steps t) _ (effect_unrefused opening steps (Begin t) reply is carried)).0

-- a transaction reads, writes and adds only where it was initiated
pub read_known : (opening : Opening) (steps : List Step) (t : Txn) (x : Ob) (reply : Reply) → answer opening steps (Read t x) ≡ Answer reply → takes_effect (Read t x) reply ≡ true
    → lists (initiated steps) t.0 ≡ true
unfolding rules_for unknown
read_known opening steps t x reply is carried =
    known_initiated steps t.0 (first_none (unknown steps t) _ (effect_unrefused opening steps (Read t x) reply is carried)).0

pub write_known : (opening : Opening) (steps : List Step) (t : Txn) (x : Ob) (v : ℤ) (reply : Reply) → answer opening steps (Write t x v) ≡ Answer reply → takes_effect (Write t x v) reply ≡ true
    → lists (initiated steps) t.0 ≡ true
unfolding rules_for unknown
write_known opening steps t x v reply is carried =
    known_initiated steps t.0 (first_none (unknown steps t) _ (effect_unrefused opening steps (Write t x v) reply is carried)).0

pub add_known : (opening : Opening) (steps : List Step) (t : Txn) (x : Ob) (d : ℤ) (reply : Reply) → answer opening steps (Add t x d) ≡ Answer reply → takes_effect (Add t x d) reply ≡ true
    → lists (initiated steps) t.0 ≡ true
unfolding rules_for unknown
add_known opening steps t x d reply is carried =
    known_initiated steps t.0 (first_none (unknown steps t) _ (effect_unrefused opening steps (Add t x d) reply is carried)).0

-- who is live was initiated
live_known : (steps : List Step) (t : ℕ) → live steps t ≡ true → lists (initiated steps) t ≡ true
unfolding live
live_known steps t alive = (and_parts _ _ alive).0

-- who is neither unknown nor ended is live
live_unless : (steps : List Step) (t : ℕ) → is_unknown (status steps t) ≡ false → has_ended (status steps t) ≡ false → live steps t ≡ true
unfolding live status status_of is_unknown has_ended
live_unless steps t = go (lists (initiated steps) t) (lists (begun steps) t) (lists (completed steps) t) (end_of steps t) where
  go : (i b c : Bool) (e : Option End) → is_unknown (status_of i b c e) ≡ false → has_ended (status_of i b c e) ≡ false → (i && is_none e) ≡ true
  go false b c e h k = sym h
  go true b c (Some End'.Committed) h k = sym k
  go true b c (Some End'.Aborted) h k = sym k
  go true b true None h k = refl
  go true true false None h k = refl
  go true false false None h k = refl

-- where none of the rules on two transactions applies, they are two, and both live; no later rule applies
between_live : (steps : List Step) (a b : Txn) (rules : List Rule)
    → first_refusal (one_name a b ∷ unknown steps a ∷ unknown steps b ∷ ended steps a ∷ ended steps b ∷ rules) ≡ None
    → (eqb a.0 b.0 ≡ false) × (live steps a.0 ≡ true) × (live steps b.0 ≡ true) × (first_refusal rules ≡ None)
unfolding unknown ended one_name
between_live steps a b rules none =
    let zero = first_none (one_name a b) _ none in
    let one = first_none (unknown steps a) _ zero.1 in
    let two = first_none (unknown steps b) _ one.1 in
    let three = first_none (ended steps a) _ two.1 in
    let four = first_none (ended steps b) _ three.1 in
    (zero.0, live_unless steps a.0 one.0 three.0, live_unless steps b.0 two.0 four.0, four.1)

-- a permit takes effect only between two live transactions
pub permit_live : (opening : Opening) (steps : List Step) (giver taker : Txn) (obs : ObSet) (ops : OpSet) (reply : Reply) → answer opening steps (Permit giver taker obs ops) ≡ Answer reply → takes_effect (Permit giver taker obs ops) reply ≡ true
    → (live steps giver.0 ≡ true) × (live steps taker.0 ≡ true)
unfolding rules_for
permit_live opening steps giver taker obs ops reply is carried = let parts = between_live steps giver taker (no_object_of opening obs ∷ []) (effect_unrefused opening steps (Permit giver taker obs ops) reply is carried) in (parts.1, parts.2)

-- a delegation takes effect only between two live transactions, which differ
pub delegate_live : (opening : Opening) (steps : List Step) (giver taker : Txn) (obs : ObSet) (reply : Reply) → answer opening steps (Delegate giver taker obs) ≡ Answer reply → takes_effect (Delegate giver taker obs) reply ≡ true
    → (eqb giver.0 taker.0 ≡ false) × (live steps giver.0 ≡ true) × (live steps taker.0 ≡ true)
unfolding rules_for
delegate_live opening steps giver taker obs reply is carried = let parts = between_live steps giver taker (no_object_of opening obs ∷ []) (effect_unrefused opening steps (Delegate giver taker obs) reply is carried) in (parts.0, parts.1, parts.2)

-- a dependency takes effect only between two live transactions, which differ, and where it closes no cycle
pub depend_live : (opening : Opening) (steps : List Step) (kind : Kind) (a b : Txn) (reply : Reply) → answer opening steps (Depend kind a b) ≡ Answer reply → takes_effect (Depend kind a b) reply ≡ true
    → (eqb a.0 b.0 ≡ false) × (live steps a.0 ≡ true) × (live steps b.0 ≡ true) × (would_cycle steps kind a.0 b.0 ≡ false)
unfolding rules_for cycle
depend_live opening steps kind a b reply is carried =
    let parts = between_live steps a b (cycle steps kind a b ∷ []) (effect_unrefused opening steps (Depend kind a b) reply is carried) in
    (parts.0, parts.1, parts.2, (first_none (cycle steps kind a b) [] parts.3).0)

-- the arrows after a permit: its own, and those before
permit_arrow : (giver taker : Txn) (obs : ObSet) (ops : OpSet) (steps : List Step) (x : ℕ) (op : Op) (u v : ℕ) → has_arrow (permits (Permit giver taker obs ops ∷ steps) x op) u v ≡ true
    → ((giver.0 ≡ u) × (taker.0 ≡ v)) ⊎ (has_arrow (permits steps x op) u v ≡ true)
unfolding has_arrow permits permitted_by
permit_arrow giver taker obs ops steps x op u v h = go (in_set obs x && has_op ops op) h where
  go : (covered : Bool) → list_any (λ (arrow : Arrow). eqb arrow.0 u && eqb arrow.1 v) (cond covered ((giver.0, taker.0) ∷ []) [] ++ permits steps x op) ≡ true
      → ((giver.0 ≡ u) × (taker.0 ≡ v)) ⊎ (list_any (λ (arrow : Arrow). eqb arrow.0 u && eqb arrow.1 v) (permits steps x op) ≡ true)
  go false h = inr h
  go true h = elim (or_cases (eqb giver.0 u && eqb taker.0 v) _ h) [
    | inl here ↦ let both = and_parts (eqb giver.0 u) (eqb taker.0 v) here in inl (eqb-true giver.0 u both.0, eqb-true taker.0 v both.1)
    | inr before ↦ inr before
  ]

-- an open permit takes effect only if its giver is live
pub open_live : (opening : Opening) (steps : List Step) (giver : Txn) (obs : List Ob) (ops : OpSet) (reply : Reply) → answer opening steps (PermitAny giver obs ops) ≡ Answer reply → takes_effect (PermitAny giver obs ops) reply ≡ true
    → live steps giver.0 ≡ true
unfolding rules_for unknown ended
open_live opening steps giver obs ops reply is carried =
    let one = first_none (unknown steps giver) _ (effect_unrefused opening steps (PermitAny giver obs ops) reply is carried) in
    let two = first_none (ended steps giver) _ one.1 in
    live_unless steps giver.0 one.0 two.0

-- a name that one more may be
lone_or : (c : Bool) (m n : ℕ) (names : List ℕ) → lists (cond c (m ∷ []) [] ++ names) n ≡ true → (m ≡ n) ⊎ (lists names n ≡ true)
unfolding lists
lone_or false m n names h = inr h
lone_or true m n names h = elim (or_cases (eqb m n) _ h) [
  | inl here ↦ inl (eqb-true m n here)
  | inr later ↦ inr later
]

-- one more step that took effect keeps a history orderly
orderly_more : (opening : Opening) (step : Step) (steps : List Step) (reply : Reply) → answer opening steps step ≡ Answer reply → takes_effect step reply ≡ true → IsOrderly steps → IsOrderly (step ∷ steps)
unfolding initiated initiated_by begun begun_by completed completed_by lists operations operated permits permitted_by openers opened_by dependencies dependency_by
orderly_more opening (Initiate t parent) steps reply is carried orderly = record {
  different = (initiate_new opening steps t parent reply is carried, orderly.different);
  begun_known = λ n done. or_right (eqb t.0 n) _ (orderly.begun_known n done);
  owners_known = λ n owns. or_right (eqb t.0 n) _ (orderly.owners_known n owns);
  completed_known = λ n done. or_right (eqb t.0 n) _ (orderly.completed_known n done);
  permits_known = λ u v x op arrow. let both = orderly.permits_known u v x op arrow in (or_right (eqb t.0 u) _ both.0, or_right (eqb t.0 v) _ both.1);
  dependencies_known = λ kind u v arrow. let both = orderly.dependencies_known kind u v arrow in (or_right (eqb t.0 u) _ both.0, or_right (eqb t.0 v) _ both.1);
  openers_known = λ n x op opens. or_right (eqb t.0 n) _ (orderly.openers_known n x op opens);
}
orderly_more opening (Begin t) steps reply is carried orderly = record {
  different = orderly.different;
  begun_known = λ n done. elim (or_cases (eqb t.0 n) _ done) [
    | inl here ↦ subst (λ m. lists (initiated steps) m ≡ true) (eqb-true t.0 n here) (begin_known opening steps t reply is carried)
    | inr before ↦ orderly.begun_known n before
  ];
  owners_known = orderly.owners_known;
  completed_known = orderly.completed_known;
  permits_known = orderly.permits_known;
  dependencies_known = orderly.dependencies_known;
  openers_known = orderly.openers_known;
}
orderly_more opening (Read t x) steps reply is carried orderly = record {
  different = orderly.different;
  begun_known = orderly.begun_known;
  owners_known = λ n owns. elim (or_cases (eqb t.0 n) _ owns) [
    | inl here ↦ subst (λ m. lists (initiated steps) m ≡ true) (eqb-true t.0 n here) (read_known opening steps t x reply is carried)
    | inr before ↦ orderly.owners_known n before
  ];
  completed_known = orderly.completed_known;
  permits_known = orderly.permits_known;
  dependencies_known = orderly.dependencies_known;
  openers_known = orderly.openers_known;
}
orderly_more opening (Write t x v) steps reply is carried orderly = record {
  different = orderly.different;
  begun_known = orderly.begun_known;
  owners_known = λ n owns. elim (or_cases (eqb t.0 n) _ owns) [
    | inl here ↦ subst (λ m. lists (initiated steps) m ≡ true) (eqb-true t.0 n here) (write_known opening steps t x v reply is carried)
    | inr before ↦ orderly.owners_known n before
  ];
  completed_known = orderly.completed_known;
  permits_known = orderly.permits_known;
  dependencies_known = orderly.dependencies_known;
  openers_known = orderly.openers_known;
}
orderly_more opening (Add t x d) steps reply is carried orderly = record {
  different = orderly.different;
  begun_known = orderly.begun_known;
  owners_known = λ n owns. elim (or_cases (eqb t.0 n) _ owns) [
    | inl here ↦ subst (λ m. lists (initiated steps) m ≡ true) (eqb-true t.0 n here) (add_known opening steps t x d reply is carried)
    | inr before ↦ orderly.owners_known n before
  ];
  completed_known = orderly.completed_known;
  permits_known = orderly.permits_known;
  dependencies_known = orderly.dependencies_known;
  openers_known = orderly.openers_known;
}
orderly_more opening (Complete t) steps reply is carried orderly = record {
  different = orderly.different;
  begun_known = orderly.begun_known;
  owners_known = orderly.owners_known;
  completed_known = λ n done. elim (or_cases (eqb t.0 n) _ done) [
    | inl here ↦ subst (λ m. lists (initiated steps) m ≡ true) (eqb-true t.0 n here) ((running_parts steps t.0 (complete_runs opening steps t reply is carried)).0)
    | inr before ↦ orderly.completed_known n before
  ];
  permits_known = orderly.permits_known;
  dependencies_known = orderly.dependencies_known;
  openers_known = orderly.openers_known;
}
orderly_more opening (Permit giver taker obs ops) steps reply is carried orderly = record {
  different = orderly.different;
  begun_known = orderly.begun_known;
  owners_known = orderly.owners_known;
  completed_known = orderly.completed_known;
  permits_known = λ u v x op arrow. elim (permit_arrow giver taker obs ops steps x op u v arrow) [
    | inl here ↦
        let both = permit_live opening steps giver taker obs ops reply is carried in
        (subst (λ m. lists (initiated steps) m ≡ true) here.0 (live_known steps giver.0 both.0), subst (λ m. lists (initiated steps) m ≡ true) here.1 (live_known steps taker.0 both.1))
    | inr before ↦ orderly.permits_known u v x op before
  ];
  dependencies_known = orderly.dependencies_known;
  openers_known = orderly.openers_known;
}
orderly_more opening (Delegate giver taker obs) steps reply is carried orderly =
    let both = delegate_live opening steps giver taker obs reply is carried in
    let receiver : lists (initiated steps) taker.0 ≡ true = live_known steps taker.0 both.2 in record {
      different = orderly.different;
      begun_known = orderly.begun_known;
      owners_known = λ n owns. elim (owner_handed giver.0 taker.0 obs n (operations steps) owns) [
        | inl here ↦ subst (λ m. lists (initiated steps) m ≡ true) here receiver
        | inr before ↦ orderly.owners_known n before
      ];
      completed_known = orderly.completed_known;
      permits_known = λ u v x op arrow. elim (delegate_arrow giver taker obs steps x op u v arrow) [
        | inl copy ↦ (subst (λ m. lists (initiated steps) m ≡ true) copy.0 receiver, (orderly.permits_known giver.0 v x op copy.1).1)
        | inr before ↦ orderly.permits_known u v x op before
      ];
      dependencies_known = orderly.dependencies_known;
      openers_known = λ n x op opens. elim (lone_or ((in_set obs x && holds_object steps giver.0 x) && lists (openers steps x op) giver.0) taker.0 n (openers steps x op) opens) [
        | inl here ↦ subst (λ m. lists (initiated steps) m ≡ true) here receiver
        | inr before ↦ orderly.openers_known n x op before
      ];
    }
orderly_more opening (Depend kind a b) steps reply is carried orderly =
    let both = depend_live opening steps kind a b reply is carried in record {
      different = orderly.different;
      begun_known = orderly.begun_known;
      owners_known = orderly.owners_known;
      completed_known = orderly.completed_known;
      permits_known = orderly.permits_known;
      dependencies_known = λ k u v arrow. elim (depend_arrow kind a b steps k u v arrow) [
        | inl here ↦ (subst (λ m. lists (initiated steps) m ≡ true) here.0 (live_known steps a.0 both.1), subst (λ m. lists (initiated steps) m ≡ true) here.1 (live_known steps b.0 both.2))
        | inr before ↦ orderly.dependencies_known k u v before
      ];
      openers_known = orderly.openers_known;
    }
orderly_more opening (Commit t) steps reply is carried orderly = record { different = orderly.different; begun_known = orderly.begun_known; owners_known = orderly.owners_known; completed_known = orderly.completed_known; permits_known = orderly.permits_known; dependencies_known = orderly.dependencies_known; openers_known = orderly.openers_known }
orderly_more opening (Abort t) steps reply is carried orderly = record { different = orderly.different; begun_known = orderly.begun_known; owners_known = orderly.owners_known; completed_known = orderly.completed_known; permits_known = orderly.permits_known; dependencies_known = orderly.dependencies_known; openers_known = orderly.openers_known }
orderly_more opening (WaitFor t) steps reply is carried orderly = record { different = orderly.different; begun_known = orderly.begun_known; owners_known = orderly.owners_known; completed_known = orderly.completed_known; permits_known = orderly.permits_known; dependencies_known = orderly.dependencies_known; openers_known = orderly.openers_known }
orderly_more opening (PermitAny giver obs ops) steps reply is carried orderly = record {
  different = orderly.different;
  begun_known = orderly.begun_known;
  owners_known = orderly.owners_known;
  completed_known = orderly.completed_known;
  permits_known = orderly.permits_known;
  dependencies_known = orderly.dependencies_known;
  openers_known = λ n x op opens. elim (lone_or (in_set (Listed obs) x && has_op ops op) giver.0 n (openers steps x op) opens) [
    | inl here ↦ subst (λ m. lists (initiated steps) m ≡ true) here (live_known steps giver.0 (open_live opening steps giver obs ops reply is carried))
    | inr before ↦ orderly.openers_known n x op before
  ];
}

-- each legal history is orderly
pub legal_orderly : (opening : Opening) (entries : List Entry) → IsLegal opening entries → IsOrderly (applied entries)
unfolding IsLegal applied initiated begun completed lists operations permits openers dependencies has_arrow
legal_orderly opening [] legal = record { different = tt; begun_known = λ n done. done; owners_known = λ n owns. owns; completed_known = λ n done. done; permits_known = λ u t x op arrow. absurd (false≢true arrow); dependencies_known = λ kind u v arrow. absurd (false≢true arrow); openers_known = λ n x op opens. absurd (false≢true opens) }
legal_orderly opening (entry ∷ older) legal = go (takes_effect entry.0 entry.1) refl (legal_orderly opening older legal.1) where
  go : (carried : Bool) → takes_effect entry.0 entry.1 ≡ carried → IsOrderly (applied older) → IsOrderly (cond carried (entry.0 ∷ applied older) (applied older))
  go true e orderly = orderly_more opening entry.0 (applied older) entry.1 legal.0 e orderly
  go false e orderly = orderly

-- who has ended after an end of live transactions was initiated, if who had ended before was
ended_more : (how : End) (steps : List Step) (test : ℕ → Bool) (n : ℕ) → (test n ≡ true → live steps n ≡ true) → (is_some (end_of steps n) ≡ true → lists (initiated steps) n ≡ true)
    → is_some (cond (test n) (Some how) (end_of steps n)) ≡ true → lists (initiated steps) n ≡ true
ended_more how steps test n alive before = go (test n) refl where
  go : (here : Bool) → test n ≡ here → is_some (cond here (Some how) (end_of steps n)) ≡ true → lists (initiated steps) n ≡ true
  go true e h = (live_parts steps n (alive e)).0
  go false e h = before h

-- who has ended was initiated
pub ended_initiated : (steps : List Step) (n : ℕ) → is_some (end_of steps n) ≡ true → lists (initiated steps) n ≡ true
unfolding end_of ended_by initiated initiated_by lists
ended_initiated [] n h = h
ended_initiated (Initiate t parent ∷ steps) n h = or_right (eqb t.0 n) _ (ended_initiated steps n (subst (λ (e : Option End). is_some e ≡ true) (option_or_none (end_of steps n)) h))
ended_initiated (Begin t ∷ steps) n h = ended_initiated steps n (subst (λ (e : Option End). is_some e ≡ true) (option_or_none (end_of steps n)) h)
ended_initiated (Read t x ∷ steps) n h = ended_initiated steps n (subst (λ (e : Option End). is_some e ≡ true) (option_or_none (end_of steps n)) h)
ended_initiated (Write t x v ∷ steps) n h = ended_initiated steps n (subst (λ (e : Option End). is_some e ≡ true) (option_or_none (end_of steps n)) h)
ended_initiated (Add t x d ∷ steps) n h = ended_initiated steps n (subst (λ (e : Option End). is_some e ≡ true) (option_or_none (end_of steps n)) h)
ended_initiated (Complete t ∷ steps) n h = ended_initiated steps n (subst (λ (e : Option End). is_some e ≡ true) (option_or_none (end_of steps n)) h)
ended_initiated (Permit giver taker obs ops ∷ steps) n h = ended_initiated steps n (subst (λ (e : Option End). is_some e ≡ true) (option_or_none (end_of steps n)) h)
ended_initiated (Delegate giver taker obs ∷ steps) n h = ended_initiated steps n (subst (λ (e : Option End). is_some e ≡ true) (option_or_none (end_of steps n)) h)
ended_initiated (Depend kind a b ∷ steps) n h = ended_initiated steps n (subst (λ (e : Option End). is_some e ≡ true) (option_or_none (end_of steps n)) h)
ended_initiated (Commit t ∷ steps) n h = ended_more End'.Committed steps (commits steps t.0) n (commits_live steps t.0 n) (ended_initiated steps n) (subst (λ (e : Option End). is_some e ≡ true) (commit_ends t steps n) h)
ended_initiated (Abort t ∷ steps) n h = ended_more End'.Aborted steps (aborts steps t.0) n (aborts_live steps t.0 n) (ended_initiated steps n) (subst (λ (e : Option End). is_some e ≡ true) (abort_ends t steps n) h)
ended_initiated (WaitFor t ∷ steps) n h = ended_initiated steps n (subst (λ (e : Option End). is_some e ≡ true) (option_or_none (end_of steps n)) h)
ended_initiated (PermitAny giver obs ops ∷ steps) n h = ended_initiated steps n (subst (λ (e : Option End). is_some e ≡ true) (option_or_none (end_of steps n)) h)
