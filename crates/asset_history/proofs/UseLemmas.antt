-- Who uses an object by an entry, and by all entries.
use Rattle.std.proofs.Common.{◌≡◌, ℕ, Bool, true, false, cond, eqb, ◌&&◌, ◌||◌, List, [], ◌∷◌, reverse, refl, sym, ap, ◌∙◌, inl, inr, Some, None}
use Rattle.std.specs.Prelude.{Option, slice_get}
use Rattle.std.specs.List.{list_any}
use Rattle.std.proofs.lemmas.Bool.{or_cases, or_left, or_right, eq-eqb}
use Rattle.asset_names.specs.declared.names.Txn.{Txn}
use Rattle.asset_names.specs.declared.names.Ob.{Ob}
use Rattle.asset_names.specs.declared.steps.Step.{Step}
use Rattle.asset_names.specs.declared.steps.Step.TheVariants.{Initiate, Begin, Read, Write, Add, Complete, Permit, PermitAny, Delegate, Depend, Commit, Abort, WaitFor}
use Rattle.asset_names.specs.declared.replies.Reply.{Reply}
use Rattle.asset_names.specs.declared.replies.Reply.TheVariants as Reply'
use Rattle.asset_names.specs.Arrows.{lists}
use Rattle.asset_names.specs.Steps.{Entry, takes_effect, applied}
use Rattle.asset_names.specs.Groups.{actor, partner, acted_on_by, acted_on, operates_on, same_group}
use Rattle.asset_names.proofs.Common.{or_false}
use Rattle.asset_laws.proofs.GroupLemmas.{group_sym, group_trans, joined_same}
use Rattle.asset_entries.specs.Operating.{operator_of, opener_of}
use Rattle.asset_history.specs.Uses.{opened_obs, has_object, opens_on, opens, operates, uses}
use Rattle.asset_history.proofs.EntryLemmas.{at_cases}
use Rattle.asset_history.specs.Named.{names_of}
use Rattle.asset_history.proofs.NameLemmas.{all_acted}
use Rattle.asset_history.proofs.MeetLemmas.{meeting_joined, opener_acts, operator_acts}

-- ---- by an entry

-- who uses x by an entry, whose operator and whose opener with its objects are these, if there are such
unfoldable pub user_by : Option (Txn × Ob) → Option (Txn × List Ob) → ℕ → Option Txn
user_by (Some operator) opener x = cond (eqb operator.1.0 x) (Some operator.0) None
user_by None (Some opener) x = cond (has_object opener.1 x) (Some opener.0) None
user_by None None x = None

-- whether a step uses x
unfoldable pub used_on : Step → ℕ → Bool
used_on step x = opens_on step x || operates_on step x

nobody : (b : Bool) (t : Txn) → None ≡ cond (b && false) (Some t) None
nobody true t = refl
nobody false t = refl

pub user_is : (step : Step) (reply : Reply) (x : ℕ) → user_by (operator_of step reply) (opener_of step reply) x ≡ cond (takes_effect step reply && used_on step x) (Some (actor step)) None
unfolding user_by operator_of opener_of takes_effect used_on opens_on has_object opened_obs operates_on actor
user_is (PermitAny giver obs ops) Reply'.Done x = ap (λ b. cond b (Some giver) None) (sym (or_false (list_any (λ (y : Ob). eqb y.0 x) obs)))
user_is (PermitAny giver obs ops) (Reply'.Value v) x = refl
user_is (PermitAny giver obs ops) Reply'.Committed x = refl
user_is (PermitAny giver obs ops) Reply'.Aborted x = refl
user_is (PermitAny giver obs ops) (Reply'.Refused refusal) x = refl
user_is (Read t y) (Reply'.Value v) x = refl
user_is (Read t y) Reply'.Done x = refl
user_is (Read t y) Reply'.Committed x = refl
user_is (Read t y) Reply'.Aborted x = refl
user_is (Read t y) (Reply'.Refused refusal) x = refl
user_is (Write t y v) Reply'.Done x = refl
user_is (Write t y v) (Reply'.Value w) x = refl
user_is (Write t y v) Reply'.Committed x = refl
user_is (Write t y v) Reply'.Aborted x = refl
user_is (Write t y v) (Reply'.Refused refusal) x = refl
user_is (Add t y d) Reply'.Done x = refl
user_is (Add t y d) (Reply'.Value w) x = refl
user_is (Add t y d) Reply'.Committed x = refl
user_is (Add t y d) Reply'.Aborted x = refl
user_is (Add t y d) (Reply'.Refused refusal) x = refl
user_is (Initiate t parent) reply x = nobody (takes_effect (Initiate t parent) reply) t
user_is (Begin t) reply x = nobody (takes_effect (Begin t) reply) t
user_is (Complete t) reply x = nobody (takes_effect (Complete t) reply) t
user_is (Permit giver taker obs ops) reply x = nobody (takes_effect (Permit giver taker obs ops) reply) giver
user_is (Delegate giver taker obs) reply x = nobody (takes_effect (Delegate giver taker obs) reply) giver
user_is (Depend kind a b) reply x = nobody (takes_effect (Depend kind a b) reply) a
user_is (Commit t) reply x = nobody (takes_effect (Commit t) reply) t
user_is (Abort t) reply x = nobody (takes_effect (Abort t) reply) t
user_is (WaitFor t) reply x = nobody (takes_effect (WaitFor t) reply) t

-- ---- by all entries

pub one_more : (entry : Entry) (older : List Entry) (test : Step → Bool) → list_any test (applied (entry ∷ older)) ≡ ((takes_effect entry.0 entry.1 && test entry.0) || list_any test (applied older))
unfolding applied
one_more entry older test = go (takes_effect entry.0 entry.1) where
  go : (effect : Bool) → list_any test (cond effect (entry.0 ∷ applied older) (applied older)) ≡ ((effect && test entry.0) || list_any test (applied older))
  go true = refl
  go false = refl

-- users are named
pub uses_listed : (all : List Entry) (u x : ℕ) → uses (applied all) u x ≡ true → lists (names_of all) u ≡ true
unfolding uses
uses_listed all u x h = all_acted all u ∙ elim (or_cases (opens (applied all) u x) _ h) [ inl one ↦ opener_acts all u x one | inr one ↦ operator_acts all u x one ]

-- ---- an object with an opener and an operator

-- all who use it are of one group
pub users_together : (all : List Entry) (x a t : ℕ) → opens (applied all) a x ≡ true → operates (applied all) t x ≡ true
    → (u v : ℕ) → uses (applied all) u x ≡ true → uses (applied all) v x ≡ true → same_group all u v ≡ true
unfolding uses
users_together all x a t opening operation u v is_u is_v = group_trans all u t v (with_operator u is_u) (group_sym all v t (with_operator v is_v)) where
  met : (b s : ℕ) → opens (applied all) b x ≡ true → operates (applied all) s x ≡ true → same_group all b s ≡ true
  met b s one other = elim (meeting_joined all b s x one other) [
    | inl there ↦ joined_same all b s there
    | inr back ↦ group_sym all s b (joined_same all s b back)
  ]

  with_operator : (w : ℕ) → (opens (applied all) w x || operates (applied all) w x) ≡ true → same_group all w t ≡ true
  with_operator w h = elim (or_cases (opens (applied all) w x) _ h) [
    | inl one ↦ met w t one operation
    | inr one ↦ group_trans all w a t (group_sym all a w (met a w opening one)) (met a t opening operation)
  ]

pub used_as_operator : (steps : List Step) (t x : ℕ) → operates steps t x ≡ true → uses steps t x ≡ true
unfolding uses
used_as_operator steps t x h = or_right (opens steps t x) _ h

-- the transaction that an entry acts on is among those that are acted on
pub actor_listed : (all : List Entry) (i : ℕ) (entry : Entry) (t : Txn) → slice_get (reverse all) i ≡ Some entry → actor entry.0 ≡ t → lists (acted_on all) t.0 ≡ true
unfolding acted_on acted_on_by lists
actor_listed [] i entry t at is = absurd cc
actor_listed (newest ∷ older) i entry t at is = elim (at_cases newest older i entry at) [
  | inl here ↦ or_left _ _ (eq-eqb (actor newest.0).0 t.0 (ap (λ (e : Entry). (actor e.0).0) (sym here.1) ∙ ap (λ (u : Txn). u.0) is))
  | inr was ↦ or_right (eqb (actor newest.0).0 t.0) _ (or_right (eqb (partner newest.0).0 t.0) _ (actor_listed older i entry t was.1 is))
]
