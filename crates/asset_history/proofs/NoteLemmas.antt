-- What an entry adds to the users of objects.
use Rattle.std.proofs.Common.{◌≡◌, ℕ, ◌+◌, ◌<◌, Bool, true, false, cond, not, eqb, ◌&&◌, ◌||◌, List, [], ◌∷◌, ◌++◌, length, get_or, take, drop, reverse, refl, sym, ap, ◌∙◌, arith, inl, inr, Some, None}
use Rattle.std.specs.Prelude.{Option, slice_get, find}
use Rattle.std.specs.List.{list_any}
use Rattle.std.proofs.lemmas.Bool.{or_cases, or_left, or_right, and_from, eqb-true, eq-eqb, false≢true, not-false}
use Rattle.std.proofs.lemmas.List.{take_more, take-append-drop, reverse-append, reverse-reverse, length-reverse}
use Rattle.std.proofs.lemmas.Option.{slice_get_cases}
use Rattle.std.proofs.lemmas.List.Folds.{list_any-append}
use Rattle.asset_names.specs.declared.names.Txn.{Txn}
use Rattle.asset_names.specs.declared.names.Ob.{Ob}
use Rattle.asset_names.specs.declared.sets.ObSet.TheVariants.{Listed}
use Rattle.asset_names.specs.declared.steps.Step.{Step}
use Rattle.asset_names.specs.declared.steps.Step.TheVariants.{Read, Write, Add, PermitAny}
use Rattle.asset_names.specs.declared.replies.Reply.{Reply}
use Rattle.asset_names.specs.declared.replies.Reply.TheVariants as Reply'
use Rattle.asset_names.specs.declared.replies.Outcome.TheVariants.{Answer}
use Rattle.asset_names.specs.Steps.{Opening, Entry, takes_effect, applied}
use Rattle.asset_names.specs.Groups.{actor, operates_on}
use Rattle.asset_names.specs.Operations.{exists}
use Rattle.asset_names.specs.Answers.{Rule, unknown, ended, not_running, no_object, no_object_of, missing_in, missing_rule, rules_for, first_refusal, answer}
use Rattle.asset_names.proofs.Common.{or_false}
use Rattle.asset_names.proofs.LegalLemmas.{effect_unrefused, first_none}
use Rattle.asset_entries.specs.Operating.{operator_of, operator_at, opener_of, opener_at}
use Rattle.asset_history.specs.Kept.{before}
use Rattle.asset_history.specs.Uses.{opened_obs, has_object, opens_on, opens, operates}
use Rattle.asset_history.proofs.EntryLemmas.{at_cases}
use Rattle.asset_history.proofs.UseLemmas.{used_on, user_by, user_is, one_more}

-- ---- objects in order

pub has_first : (obs : List Ob) (k x : ℕ) → has_object (take k obs) x ≡ true → has_object obs x ≡ true
unfolding has_object
has_first obs k x h =
    ap (λ l. list_any (λ (y : Ob). eqb y.0 x) l) (sym (take-append-drop k obs)) ∙ list_any-append (λ (y : Ob). eqb y.0 x) (take k obs) (drop k obs) ∙ or_left _ _ h

pub has_more : (obs : List Ob) (k x : ℕ) (d : Ob) → k < length obs → has_object (take (k + 1) obs) x ≡ (has_object (take k obs) x || eqb (get_or obs k d).0 x)
unfolding has_object
has_more obs k x d below =
    ap (λ l. list_any (λ (y : Ob). eqb y.0 x) l) (take_more obs k d below) ∙ list_any-append (λ (y : Ob). eqb y.0 x) (take k obs) (get_or obs k d ∷ []) ∙ ap (λ b. has_first_part || b) (or_false (eqb (get_or obs k d).0 x)) where
      has_first_part : Bool
      has_first_part = list_any (λ (y : Ob). eqb y.0 x) (take k obs)

pub has_at : (obs : List Ob) (k : ℕ) (d : Ob) → k < length obs → has_object obs (get_or obs k d).0 ≡ true
has_at obs k d below = has_first obs (k + 1) (get_or obs k d).0 (has_more obs k (get_or obs k d).0 d below ∙ or_right (has_object (take k obs) (get_or obs k d).0) _ (eq-eqb (get_or obs k d).0 (get_or obs k d).0 refl))

-- ---- what the step of an operator or of an opener uses

pub record Operates (step : Step) (reply : Reply) (t : Txn) (x : ℕ) : Type 0 where
  pub effect : takes_effect step reply ≡ true
  pub actor_is : actor step ≡ t
  pub operates_is : (y : ℕ) → operates_on step y ≡ eqb x y
  pub opens_none : (y : ℕ) → opens_on step y ≡ false

pub operator_parts : (step : Step) (reply : Reply) (t : Txn) (x : Ob) → operator_of step reply ≡ Some (t, x) → Operates step reply t x.0
unfolding operator_of takes_effect actor operates_on opens_on has_object opened_obs
operator_parts (Read u y) (Reply'.Value v) t x is = let same : ◌≡◌ {A = Txn × Ob} (u, y) (t, x) = cc in record { effect = refl; actor_is = λ i. (same i).0; operates_is = λ z i. eqb (same i).1.0 z; opens_none = λ z. refl }
operator_parts (Write u y v) Reply'.Done t x is = let same : ◌≡◌ {A = Txn × Ob} (u, y) (t, x) = cc in record { effect = refl; actor_is = λ i. (same i).0; operates_is = λ z i. eqb (same i).1.0 z; opens_none = λ z. refl }
operator_parts (Add u y d) Reply'.Done t x is = let same : ◌≡◌ {A = Txn × Ob} (u, y) (t, x) = cc in record { effect = refl; actor_is = λ i. (same i).0; operates_is = λ z i. eqb (same i).1.0 z; opens_none = λ z. refl }
operator_parts step reply t x is = absurd cc

pub record Opens (step : Step) (reply : Reply) (t : Txn) (obs : List Ob) : Type 0 where
  pub effect : takes_effect step reply ≡ true
  pub actor_is : actor step ≡ t
  pub opens_is : (y : ℕ) → opens_on step y ≡ has_object obs y
  pub operates_none : (y : ℕ) → operates_on step y ≡ false

pub opener_parts : (step : Step) (reply : Reply) (t : Txn) (obs : List Ob) → opener_of step reply ≡ Some (t, obs) → Opens step reply t obs
unfolding opener_of takes_effect actor operates_on opens_on opened_obs
opener_parts (PermitAny giver listed ops) Reply'.Done t obs is = let same : ◌≡◌ {A = Txn × List Ob} (giver, listed) (t, obs) = cc in record { effect = refl; actor_is = λ i. (same i).0; opens_is = λ z i. has_object (same i).1 z; operates_none = λ z. refl }
opener_parts step reply t obs is = absurd cc

-- ---- all entries and those before an index

-- what an entry that took effect does is among what all do
pub applied_has : (test : Step → Bool) (all : List Entry) (i : ℕ) (entry : Entry) → slice_get (reverse all) i ≡ Some entry → takes_effect entry.0 entry.1 ≡ true → test entry.0 ≡ true → list_any test (applied all) ≡ true
applied_has test [] i entry at effect h = absurd cc
applied_has test (newest ∷ older) i entry at effect h = one_more newest older test ∙ elim (at_cases newest older i entry at) [
  | inl here ↦ or_left _ _ (and_from _ _ (ap (λ (e : Entry). takes_effect e.0 e.1) (sym here.1) ∙ effect) (ap (λ (e : Entry). test e.0) (sym here.1) ∙ h))
  | inr was ↦ or_right (takes_effect newest.0 newest.1 && test newest.0) _ (applied_has test older i entry was.1 effect h)
]

newer_has : (test : Step → Bool) (newer older : List Entry) → list_any test (applied older) ≡ true → list_any test (applied (newer ++ older)) ≡ true
newer_has test [] older h = h
newer_has test (entry ∷ newer) older h = one_more entry (newer ++ older) test ∙ or_right (takes_effect entry.0 entry.1 && test entry.0) _ (newer_has test newer older h)

parted : (all : List Entry) (i : ℕ) → reverse (drop i (reverse all)) ++ before all i ≡ all
parted all i = sym (reverse-append (take i (reverse all)) (drop i (reverse all))) ∙ ap reverse (take-append-drop i (reverse all)) ∙ reverse-reverse all

pub before_has : (test : Step → Bool) (all : List Entry) (i : ℕ) → list_any test (applied (before all i)) ≡ true → list_any test (applied all) ≡ true
before_has test all i h = ap (λ l. list_any test (applied l)) (sym (parted all i)) ∙ newer_has test (reverse (drop i (reverse all))) (before all i) h

-- ---- who uses an object exists

none_missing : (found : Option Ob) → (missing_rule found).0 ≡ false → found ≡ None
unfolding missing_rule
none_missing None h = refl
none_missing (Some x) h = absurd (false≢true (sym h))

module _ (opening : Opening) (steps : List Step) where
  fourth : (a b c d : Rule) → first_refusal (a ∷ b ∷ c ∷ d ∷ []) ≡ None → d.0 ≡ false
  fourth a b c d h =
      let second = (first_none a (b ∷ c ∷ d ∷ []) h).1 in
      let third = (first_none b (c ∷ d ∷ []) second).1 in
      (first_none d [] (first_none c (d ∷ []) third).1).0

  third : (a b c : Rule) → first_refusal (a ∷ b ∷ c ∷ []) ≡ None → c.0 ≡ false
  third a b c h = (first_none c [] (first_none b (c ∷ []) (first_none a (b ∷ c ∷ []) h).1).1).0

  pub operated_exists : (step : Step) (reply : Reply) (t : Txn) (x : Ob) → answer opening steps step ≡ Answer reply → operator_of step reply ≡ Some (t, x) → exists opening x.0 ≡ true
  unfolding rules_for no_object operator_of takes_effect
  operated_exists (Read u y) (Reply'.Value v) t x is operator =
      let same : ◌≡◌ {A = Txn × Ob} (u, y) (t, x) = cc in
      ap (λ (o : Ob). exists opening o.0) (λ i. (sym same i).1) ∙ not-false _ (fourth (unknown steps u) (ended steps u) (not_running steps u) (no_object opening y) (effect_unrefused opening steps (Read u y) (Reply'.Value v) is refl))
  operated_exists (Write u y v) Reply'.Done t x is operator =
      let same : ◌≡◌ {A = Txn × Ob} (u, y) (t, x) = cc in
      ap (λ (o : Ob). exists opening o.0) (λ i. (sym same i).1) ∙ not-false _ (fourth (unknown steps u) (ended steps u) (not_running steps u) (no_object opening y) (effect_unrefused opening steps (Write u y v) Reply'.Done is refl))
  operated_exists (Add u y d) Reply'.Done t x is operator =
      let same : ◌≡◌ {A = Txn × Ob} (u, y) (t, x) = cc in
      ap (λ (o : Ob). exists opening o.0) (λ i. (sym same i).1) ∙ not-false _ (fourth (unknown steps u) (ended steps u) (not_running steps u) (no_object opening y) (effect_unrefused opening steps (Add u y d) Reply'.Done is refl))
  operated_exists step reply t x is operator = absurd cc

  listed_exists : (obs : List Ob) → find (λ (x : Ob). not (exists opening x.0)) obs ≡ None → (x : ℕ) → has_object obs x ≡ true → exists opening x ≡ true
  unfolding has_object
  listed_exists [] none x h = absurd (false≢true h)
  listed_exists (y ∷ obs) none x h = go (λ found later. listed_exists obs found x later) (exists opening y.0) refl none where
    go : (find (λ (z : Ob). not (exists opening z.0)) obs ≡ None → list_any (λ (z : Ob). eqb z.0 x) obs ≡ true → exists opening x ≡ true)
        → (b : Bool) → exists opening y.0 ≡ b → cond (not b) (Some y) (find (λ (z : Ob). not (exists opening z.0)) obs) ≡ None → exists opening x ≡ true
    go rest false e found = absurd cc
    go rest true e found = elim (or_cases (eqb y.0 x) _ h) [
      | inl here ↦ ap (exists opening) (sym (eqb-true y.0 x here)) ∙ e
      | inr later ↦ rest found later
    ]

  pub opened_exists : (step : Step) (reply : Reply) (t : Txn) (obs : List Ob) → answer opening steps step ≡ Answer reply → opener_of step reply ≡ Some (t, obs) → (x : ℕ) → has_object obs x ≡ true → exists opening x ≡ true
  unfolding rules_for no_object_of missing_in opener_of takes_effect
  opened_exists (PermitAny giver listed ops) Reply'.Done t obs is opener x h =
      let same : ◌≡◌ {A = Txn × List Ob} (giver, listed) (t, obs) = cc in
      let rule = third (unknown steps giver) (ended steps giver) (no_object_of opening (Listed listed)) (effect_unrefused opening steps (PermitAny giver listed ops) Reply'.Done is refl) in
      listed_exists listed (none_missing (find (λ (y : Ob). not (exists opening y.0)) listed) rule) x (ap (λ (l : List Ob). has_object l x) (λ i. (same i).1) ∙ h)
  opened_exists step reply t obs is opener x h = absurd cc

-- ---- what the users are after an entry

pub opens_next : (entry : Entry) (older : List Entry) (u y : ℕ) → opens (applied (entry ∷ older)) u y ≡ ((takes_effect entry.0 entry.1 && (opens_on entry.0 y && eqb (actor entry.0).0 u)) || opens (applied older) u y)
unfolding opens
opens_next entry older u y = one_more entry older (λ (step : Step). opens_on step y && eqb (actor step).0 u)

pub operates_next : (entry : Entry) (older : List Entry) (u y : ℕ) → operates (applied (entry ∷ older)) u y ≡ ((takes_effect entry.0 entry.1 && (operates_on entry.0 y && eqb (actor entry.0).0 u)) || operates (applied older) u y)
unfolding operates
operates_next entry older u y = one_more entry older (λ (step : Step). operates_on step y && eqb (actor step).0 u)

none_next : (effect on who : Bool) → on ≡ false → (effect && (on && who)) ≡ false
none_next true on who is = ap (λ b. b && who) is
none_next false on who is = refl

-- an operation
pub operator_opens : (entry : Entry) (older : List Entry) (t : Txn) (x u y : ℕ) → Operates entry.0 entry.1 t x → opens (applied older) u y ≡ opens (applied (entry ∷ older)) u y
operator_opens entry older t x u y parts = sym (opens_next entry older u y ∙ ap (λ b. b || opens (applied older) u y) (none_next (takes_effect entry.0 entry.1) (opens_on entry.0 y) (eqb (actor entry.0).0 u) (parts.opens_none y)))

pub operator_operates : (entry : Entry) (older : List Entry) (t : Txn) (x u y : ℕ) → Operates entry.0 entry.1 t x → ((eqb x y && eqb t.0 u) || operates (applied older) u y) ≡ operates (applied (entry ∷ older)) u y
operator_operates entry older t x u y parts = sym (operates_next entry older u y ∙ rw (parts.effect, parts.operates_is y, parts.actor_is) refl)

-- an open permit
pub opener_opens : (entry : Entry) (older : List Entry) (t : Txn) (obs : List Ob) (u y : ℕ) → Opens entry.0 entry.1 t obs → ((has_object obs y && eqb t.0 u) || opens (applied older) u y) ≡ opens (applied (entry ∷ older)) u y
opener_opens entry older t obs u y parts = sym (opens_next entry older u y ∙ rw (parts.effect, parts.opens_is y, parts.actor_is) refl)

pub opener_operates : (entry : Entry) (older : List Entry) (t : Txn) (obs : List Ob) (u y : ℕ) → Opens entry.0 entry.1 t obs → operates (applied older) u y ≡ operates (applied (entry ∷ older)) u y
opener_operates entry older t obs u y parts = sym (operates_next entry older u y ∙ ap (λ b. b || operates (applied older) u y) (none_next (takes_effect entry.0 entry.1) (operates_on entry.0 y) (eqb (actor entry.0).0 u) (parts.operates_none y)))

-- anything else
pub idle_on : (entry : Entry) → operator_of entry.0 entry.1 ≡ None → opener_of entry.0 entry.1 ≡ None → (y : ℕ) → (takes_effect entry.0 entry.1 && used_on entry.0 y) ≡ false
unfolding user_by
idle_on entry no_operator no_opener y = go (takes_effect entry.0 entry.1 && used_on entry.0 y) (sym (user_is entry.0 entry.1 y) ∙ (λ i. user_by (no_operator i) (no_opener i) y)) where
  go : (b : Bool) → cond b (Some (actor entry.0)) None ≡ None → b ≡ false
  go true h = absurd cc
  go false h = refl

neither_on : (effect o p who : Bool) → (effect && (o || p)) ≡ false → ((effect && (o && who)) ≡ false) × ((effect && (p && who)) ≡ false)
neither_on false o p who h = (refl, refl)
neither_on true true p who h = absurd (false≢true (sym h))
neither_on true false true who h = absurd (false≢true (sym h))
neither_on true false false who h = (refl, refl)

pub idle_opens : (entry : Entry) (older : List Entry) (u y : ℕ) → operator_of entry.0 entry.1 ≡ None → opener_of entry.0 entry.1 ≡ None → opens (applied older) u y ≡ opens (applied (entry ∷ older)) u y
unfolding used_on
idle_opens entry older u y no_operator no_opener =
    sym (opens_next entry older u y ∙ ap (λ b. b || opens (applied older) u y) (neither_on (takes_effect entry.0 entry.1) (opens_on entry.0 y) (operates_on entry.0 y) (eqb (actor entry.0).0 u) (idle_on entry no_operator no_opener y)).0)

pub idle_operates : (entry : Entry) (older : List Entry) (u y : ℕ) → operator_of entry.0 entry.1 ≡ None → opener_of entry.0 entry.1 ≡ None → operates (applied older) u y ≡ operates (applied (entry ∷ older)) u y
unfolding used_on
idle_operates entry older u y no_operator no_opener =
    sym (operates_next entry older u y ∙ ap (λ b. b || operates (applied older) u y) (neither_on (takes_effect entry.0 entry.1) (opens_on entry.0 y) (operates_on entry.0 y) (eqb (actor entry.0).0 u) (idle_on entry no_operator no_opener y)).1)

-- ---- the entry at an index

pub found_operator : (found : Option Entry) (t : Txn) (x : Ob) → operator_at found ≡ Some (t, x) → (entry : Entry) × (found ≡ Some entry) × (operator_of entry.0 entry.1 ≡ Some (t, x))
found_operator None t x is = absurd cc
found_operator (Some entry) t x is = (entry, refl, is)

pub found_opener : (found : Option Entry) (t : Txn) (obs : List Ob) → opener_at found ≡ Some (t, obs) → (entry : Entry) × (found ≡ Some entry) × (opener_of entry.0 entry.1 ≡ Some (t, obs))
found_opener None t obs is = absurd cc
found_opener (Some entry) t obs is = (entry, refl, is)

pub found_idle : (all : List Entry) (i : ℕ) → i < length all → operator_at (slice_get (reverse all) i) ≡ None → opener_at (slice_get (reverse all) i) ≡ None
    → (entry : Entry) × (slice_get (reverse all) i ≡ Some entry) × (operator_of entry.0 entry.1 ≡ None) × (opener_of entry.0 entry.1 ≡ None)
found_idle all i below no_operator no_opener = elim (slice_get_cases (reverse all) i).1 [
  | inl here ↦ (here.0, here.2, ap operator_at (sym here.2) ∙ no_operator, ap opener_at (sym here.2) ∙ no_opener)
  | inr past ↦ absurd (omega (arith, past.0, length-reverse all))
]

-- who opens or operates by an entry does so by all
pub opener_among : (all : List Entry) (i : ℕ) (entry : Entry) (t : Txn) (obs : List Ob) (x : ℕ) → slice_get (reverse all) i ≡ Some entry → Opens entry.0 entry.1 t obs → has_object obs x ≡ true → opens (applied all) t.0 x ≡ true
unfolding opens
opener_among all i entry t obs x at parts has =
    applied_has (λ (step : Step). opens_on step x && eqb (actor step).0 t.0) all i entry at parts.effect (and_from _ _ (parts.opens_is x ∙ has) (eq-eqb (actor entry.0).0 t.0 (ap (λ (u : Txn). u.0) parts.actor_is)))

pub operator_among : (all : List Entry) (i : ℕ) (entry : Entry) (t : Txn) (x : ℕ) → slice_get (reverse all) i ≡ Some entry → Operates entry.0 entry.1 t x → operates (applied all) t.0 x ≡ true
unfolding operates
operator_among all i entry t x at parts =
    applied_has (λ (step : Step). operates_on step x && eqb (actor step).0 t.0) all i entry at parts.effect (and_from _ _ (parts.operates_is x ∙ eq-eqb x x refl) (eq-eqb (actor entry.0).0 t.0 (ap (λ (u : Txn). u.0) parts.actor_is)))

pub opens_among : (all : List Entry) (i u x : ℕ) → opens (applied (before all i)) u x ≡ true → opens (applied all) u x ≡ true
unfolding opens
opens_among all i u x h = before_has (λ (step : Step). opens_on step x && eqb (actor step).0 u) all i h

pub operates_among : (all : List Entry) (i u x : ℕ) → operates (applied (before all i)) u x ≡ true → operates (applied all) u x ≡ true
unfolding operates
operates_among all i u x h = before_has (λ (step : Step). operates_on step x && eqb (actor step).0 u) all i h
