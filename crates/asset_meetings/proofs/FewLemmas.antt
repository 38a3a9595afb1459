-- The few joins of those who met say the same as a join for each pair.
use Rattle.std.proofs.Common.{◌≡◌, ℕ, Bool, true, false, cond, eqb, ◌&&◌, ◌||◌, List, [], ◌∷◌, ◌++◌, refl, sym, ap, subst, ◌∙◌, inl, inr, Some, None}
use Rattle.std.specs.Prelude.{Option, is_some}
use Rattle.std.specs.List.{list_any}
use Rattle.std.proofs.lemmas.Bool.{or_cases, or_left, or_right, and_parts, and_from, eqb-true, eq-eqb, false≢true}
use Rattle.std.proofs.lemmas.List.{map-append}
use Rattle.std.proofs.lemmas.List.Folds.{list_any-append}
use Rattle.asset_names.specs.declared.names.Txn.{Txn}
use Rattle.asset_names.specs.declared.names.Ob.{Ob}
use Rattle.asset_names.specs.declared.steps.Step.{Step}
use Rattle.asset_names.specs.declared.steps.Step.TheVariants.{Initiate, Begin, Read, Write, Add, Complete, Permit, PermitAny, Delegate, Depend, Commit, Abort, WaitFor}
use Rattle.asset_names.specs.declared.replies.Reply.{Reply}
use Rattle.asset_names.specs.declared.replies.Reply.TheVariants as Reply'
use Rattle.asset_names.specs.Arrows.{has_arrow}
use Rattle.asset_names.specs.Steps.{Entry, takes_effect, applied}
use Rattle.asset_names.specs.Groups.{actor, operates_on}
use Rattle.asset_names.proofs.ListLemmas.{any_map, any_and}
use Rattle.asset_names.proofs.DependLemmas.{has_append}
use Rattle.asset_entries.specs.Operating.{operator_of, opener_of}
use Rattle.asset_meetings.specs.declared.users.User.{User}
use Rattle.asset_meetings.specs.Users.{users_of, opener_users, openers_of, operator_users, operators_of, first_user, joins_of, joined_with, meetings_by, meetings_of}
use Rattle.asset_meetings.specs.Meetings.{join_arrows}
use Rattle.asset_history.specs.Uses.{opened_obs, has_object, opens_on, opens, operates}
use Rattle.asset_history.proofs.MeetLemmas.{Meet}

-- whether t uses x
has_user : List User → ℕ → ℕ → Bool
has_user users t x = list_any (λ (used : User). eqb used.x.0 x && eqb used.t.0 t) users

has_uses : (ones others : List User) (t x : ℕ) → has_user (ones ++ others) t x ≡ (has_user ones t x || has_user others t x)
unfolding has_user
has_uses ones others t x = list_any-append (λ (used : User). eqb used.x.0 x && eqb used.t.0 t) ones others

-- ---- the openers are those of the steps that took effect

uses_has : (t : Txn) (obs : List Ob) (a x : ℕ) → has_user (users_of t obs) a x ≡ (list_any (λ (y : Ob). eqb y.0 x) obs && eqb t.0 a)
unfolding has_user users_of
uses_has t obs a x =
    any_map (λ (used : User). eqb used.x.0 x && eqb used.t.0 a) (λ (y : Ob). record { t = t; x = y }) obs
    ∙ any_and (λ (y : Ob). eqb y.0 x) (eqb t.0 a) obs

none_of : (a b : Bool) → false ≡ (a && (false && b))
none_of true b = refl
none_of false b = refl

opened_here : (step : Step) (reply : Reply) (a x : ℕ) → has_user (opener_users (opener_of step reply)) a x ≡ (takes_effect step reply && (opens_on step x && eqb (actor step).0 a))
unfolding has_user opener_users opener_of takes_effect opens_on has_object opened_obs actor
opened_here (PermitAny giver obs ops) Reply'.Done a x = uses_has giver obs a x
opened_here (PermitAny giver obs ops) (Reply'.Value v) a x = refl
opened_here (PermitAny giver obs ops) Reply'.Committed a x = refl
opened_here (PermitAny giver obs ops) Reply'.Aborted a x = refl
opened_here (PermitAny giver obs ops) (Reply'.Refused refusal) a x = refl
opened_here (Initiate t parent) reply a x = none_of (takes_effect (Initiate t parent) reply) (eqb t.0 a)
opened_here (Begin t) reply a x = none_of (takes_effect (Begin t) reply) (eqb t.0 a)
opened_here (Read t y) reply a x = none_of (takes_effect (Read t y) reply) (eqb t.0 a)
opened_here (Write t y v) reply a x = none_of (takes_effect (Write t y v) reply) (eqb t.0 a)
opened_here (Add t y d) reply a x = none_of (takes_effect (Add t y d) reply) (eqb t.0 a)
opened_here (Complete t) reply a x = none_of (takes_effect (Complete t) reply) (eqb t.0 a)
opened_here (Permit giver taker obs ops) reply a x = none_of (takes_effect (Permit giver taker obs ops) reply) (eqb giver.0 a)
opened_here (Delegate giver taker obs) reply a x = none_of (takes_effect (Delegate giver taker obs) reply) (eqb giver.0 a)
opened_here (Depend kind b c) reply a x = none_of (takes_effect (Depend kind b c) reply) (eqb b.0 a)
opened_here (Commit t) reply a x = none_of (takes_effect (Commit t) reply) (eqb t.0 a)
opened_here (Abort t) reply a x = none_of (takes_effect (Abort t) reply) (eqb t.0 a)
opened_here (WaitFor t) reply a x = none_of (takes_effect (WaitFor t) reply) (eqb t.0 a)

or_back : (a b : Bool) → (a || b) ≡ (b || a)
or_back true true = refl
or_back true false = refl
or_back false true = refl
or_back false false = refl

-- a test of the steps that took effect, for one entry more
applied_more : (test : Step → Bool) (entry : Entry) (older : List Entry) → list_any test (applied (entry ∷ older)) ≡ ((takes_effect entry.0 entry.1 && test entry.0) || list_any test (applied older))
unfolding applied
applied_more test entry older = go (takes_effect entry.0 entry.1) where
  go : (effect : Bool) → list_any test (cond effect (entry.0 ∷ applied older) (applied older)) ≡ ((effect && test entry.0) || list_any test (applied older))
  go true = refl
  go false = refl

openers_are : (entries : List Entry) (a x : ℕ) → has_user (openers_of entries) a x ≡ opens (applied entries) a x
unfolding openers_of opens applied has_user
openers_are [] a x = refl
openers_are (entry ∷ older) a x =
    has_uses (openers_of older) (opener_users (opener_of entry.0 entry.1)) a x
    ∙ or_back (has_user (openers_of older) a x) (has_user (opener_users (opener_of entry.0 entry.1)) a x)
    ∙ (λ i. opened_here entry.0 entry.1 a x i || openers_are older a x i)
    ∙ sym (applied_more (λ (step : Step). opens_on step x && eqb (actor step).0 a) entry older)

-- ---- the operators are those of the steps that took effect, of the objects for which somebody is noted

one_use : (noted : ℕ → Option Txn) (u : Txn) (y : Ob) (t x : ℕ) → has_user (operator_users noted (Some (u, y))) t x ≡ (is_some (noted x) && (eqb y.0 x && eqb u.0 t))
unfolding has_user operator_users
one_use noted u y t x = go (eqb y.0 x) refl (is_some (noted y.0)) refl where
  go : (here : Bool) → eqb y.0 x ≡ here → (there : Bool) → is_some (noted y.0) ≡ there → has_user (cond there (record { t = u; x = y } ∷ []) []) t x ≡ (is_some (noted x) && (here && eqb u.0 t))
  go false is true at = rw (is) (none_of (is_some (noted x)) (eqb u.0 t))
  go false is false at = none_of (is_some (noted x)) (eqb u.0 t)
  go true is true at = rw (is, ap (λ z. is_some (noted z)) (sym (eqb-true y.0 x is)) ∙ at) (alone (eqb u.0 t)) where
    alone : (b : Bool) → (b || false) ≡ b
    alone true = refl
    alone false = refl
  go true is false at = rw (ap (λ z. is_some (noted z)) (sym (eqb-true y.0 x is)) ∙ at) refl

none_at_all : (a b c : Bool) → false ≡ (a && (b && (false && c)))
none_at_all true b c = none_of b c
none_at_all false b c = refl

operated_here : (noted : ℕ → Option Txn) (step : Step) (reply : Reply) (t x : ℕ)
    → has_user (operator_users noted (operator_of step reply)) t x ≡ (is_some (noted x) && (takes_effect step reply && (operates_on step x && eqb (actor step).0 t)))
unfolding has_user operator_users operator_of takes_effect operates_on actor
operated_here noted (Read u y) (Reply'.Value v) t x = one_use noted u y t x
operated_here noted (Read u y) Reply'.Done t x = none_of (is_some (noted x)) (eqb y.0 x && eqb u.0 t)
operated_here noted (Read u y) Reply'.Committed t x = none_of (is_some (noted x)) (eqb y.0 x && eqb u.0 t)
operated_here noted (Read u y) Reply'.Aborted t x = none_of (is_some (noted x)) (eqb y.0 x && eqb u.0 t)
operated_here noted (Read u y) (Reply'.Refused refusal) t x = none_of (is_some (noted x)) (eqb y.0 x && eqb u.0 t)
operated_here noted (Write u y v) Reply'.Done t x = one_use noted u y t x
operated_here noted (Write u y v) (Reply'.Value w) t x = none_of (is_some (noted x)) (eqb y.0 x && eqb u.0 t)
operated_here noted (Write u y v) Reply'.Committed t x = none_of (is_some (noted x)) (eqb y.0 x && eqb u.0 t)
operated_here noted (Write u y v) Reply'.Aborted t x = none_of (is_some (noted x)) (eqb y.0 x && eqb u.0 t)
operated_here noted (Write u y v) (Reply'.Refused refusal) t x = none_of (is_some (noted x)) (eqb y.0 x && eqb u.0 t)
operated_here noted (Add u y d) Reply'.Done t x = one_use noted u y t x
operated_here noted (Add u y d) (Reply'.Value w) t x = none_of (is_some (noted x)) (eqb y.0 x && eqb u.0 t)
operated_here noted (Add u y d) Reply'.Committed t x = none_of (is_some (noted x)) (eqb y.0 x && eqb u.0 t)
operated_here noted (Add u y d) Reply'.Aborted t x = none_of (is_some (noted x)) (eqb y.0 x && eqb u.0 t)
operated_here noted (Add u y d) (Reply'.Refused refusal) t x = none_of (is_some (noted x)) (eqb y.0 x && eqb u.0 t)
operated_here noted (Initiate u parent) reply t x = none_at_all (is_some (noted x)) (takes_effect (Initiate u parent) reply) (eqb u.0 t)
operated_here noted (Begin u) reply t x = none_at_all (is_some (noted x)) (takes_effect (Begin u) reply) (eqb u.0 t)
operated_here noted (Complete u) reply t x = none_at_all (is_some (noted x)) (takes_effect (Complete u) reply) (eqb u.0 t)
operated_here noted (Permit giver taker obs ops) reply t x = none_at_all (is_some (noted x)) (takes_effect (Permit giver taker obs ops) reply) (eqb giver.0 t)
operated_here noted (PermitAny giver obs ops) reply t x = none_at_all (is_some (noted x)) (takes_effect (PermitAny giver obs ops) reply) (eqb giver.0 t)
operated_here noted (Delegate giver taker obs) reply t x = none_at_all (is_some (noted x)) (takes_effect (Delegate giver taker obs) reply) (eqb giver.0 t)
operated_here noted (Depend kind a b) reply t x = none_at_all (is_some (noted x)) (takes_effect (Depend kind a b) reply) (eqb a.0 t)
operated_here noted (Commit u) reply t x = none_at_all (is_some (noted x)) (takes_effect (Commit u) reply) (eqb u.0 t)
operated_here noted (Abort u) reply t x = none_at_all (is_some (noted x)) (takes_effect (Abort u) reply) (eqb u.0 t)
operated_here noted (WaitFor u) reply t x = none_at_all (is_some (noted x)) (takes_effect (WaitFor u) reply) (eqb u.0 t)

apart_or : (a b c : Bool) → ((a && b) || (a && c)) ≡ (a && (b || c))
apart_or true b c = refl
apart_or false b c = refl

operators_are : (noted : ℕ → Option Txn) (entries : List Entry) (t x : ℕ) → has_user (operators_of noted entries) t x ≡ (is_some (noted x) && operates (applied entries) t x)
unfolding operators_of operates has_user applied
operators_are noted [] t x = none_of (is_some (noted x)) true
operators_are noted (entry ∷ older) t x =
    let here = takes_effect entry.0 entry.1 && (operates_on entry.0 x && eqb (actor entry.0).0 t) in
    let before = list_any (λ (step : Step). operates_on step x && eqb (actor step).0 t) (applied older) in
    has_uses (operators_of noted older) (operator_users noted (operator_of entry.0 entry.1)) t x
    ∙ or_back (has_user (operators_of noted older) t x) (has_user (operator_users noted (operator_of entry.0 entry.1)) t x)
    ∙ (λ i. operated_here noted entry.0 entry.1 t x i || operators_are noted older t x i)
    ∙ apart_or (is_some (noted x)) here before
    ∙ ap (λ b. is_some (noted x) && b) (sym (applied_more (λ (step : Step). operates_on step x && eqb (actor step).0 t) entry older))

-- ---- first users

first_uses : (users : List User) (x : ℕ) (s : Txn) → first_user users x ≡ Some s → has_user users s.0 x ≡ true
unfolding first_user has_user
first_uses [] x s is = absurd cc
first_uses (used ∷ users) x s is = go (λ found. first_uses users x s found) (eqb used.x.0 x) refl is where
  go : (first_user users x ≡ Some s → has_user users s.0 x ≡ true) → (here : Bool) → eqb used.x.0 x ≡ here → cond here (Some used.t) (first_user users x) ≡ Some s → ((here && eqb used.t.0 s.0) || has_user users s.0 x) ≡ true
  go rest true at found = let same : used.t ≡ s = cc in or_left _ _ (eq-eqb used.t.0 s.0 (ap (λ (t : Txn). t.0) same))
  go rest false at found = rest found

first_found : (users : List User) (t x : ℕ) → has_user users t x ≡ true → (s : Txn) × (first_user users x ≡ Some s)
unfolding first_user has_user
first_found [] t x h = absurd (false≢true h)
first_found (used ∷ users) t x h = go (λ some. first_found users t x some) (eqb used.x.0 x) h where
  go : (has_user users t x ≡ true → (s : Txn) × (first_user users x ≡ Some s)) → (here : Bool) → ((here && eqb used.t.0 t) || has_user users t x) ≡ true → (s : Txn) × (cond here (Some used.t) (first_user users x) ≡ Some s)
  go rest true some = (used.t, refl)
  go rest false some = rest some

-- ---- the joins of users with those who are noted

joined_there : (noted : ℕ → Option Txn) (users : List User) (t x : ℕ) (s : Txn) → has_user users t x ≡ true → noted x ≡ Some s → has_arrow (join_arrows (joined_with noted users)) t s.0 ≡ true
unfolding has_user joined_with join_arrows has_arrow joins_of
joined_there noted [] t x s h is = absurd (false≢true h)
joined_there noted (used ∷ users) t x s h is =
    ap (λ arrows. has_arrow arrows t s.0) (map-append (λ (join : Txn × Txn). (join.0.0, join.1.0)) (joins_of used.t (noted used.x.0)) (joined_with noted users))
    ∙ has_append (join_arrows (joins_of used.t (noted used.x.0))) (join_arrows (joined_with noted users)) t s.0
    ∙ elim (or_cases (eqb used.x.0 x && eqb used.t.0 t) _ h) [
      | inl here ↦
          let parts = and_parts (eqb used.x.0 x) _ here in
          or_left (has_arrow (join_arrows (joins_of used.t (noted used.x.0))) t s.0) _ (noted_there (noted used.x.0) (ap noted (eqb-true used.x.0 x parts.0) ∙ is) parts.1)
      | inr later ↦ or_right (has_arrow (join_arrows (joins_of used.t (noted used.x.0))) t s.0) _ (joined_there noted users t x s later is)
    ] where
      noted_there : (at : Option Txn) → at ≡ Some s → eqb used.t.0 t ≡ true → has_arrow (join_arrows (joins_of used.t at)) t s.0 ≡ true
      noted_there None none same = absurd cc
      noted_there (Some other) same_one same = let one : other ≡ s = cc in or_left _ _ (and_from _ _ same (eq-eqb other.0 s.0 (ap (λ (m : Txn). m.0) one)))

joined_real : (noted : ℕ → Option Txn) (users : List User) (t v : ℕ) → has_arrow (join_arrows (joined_with noted users)) t v ≡ true
    → (x : ℕ) × (s : Txn) × (has_user users t x ≡ true) × (noted x ≡ Some s) × (s.0 ≡ v)
unfolding has_user joined_with join_arrows has_arrow joins_of
joined_real noted [] t v h = absurd (false≢true h)
joined_real noted (used ∷ users) t v h =
    let split = sym (ap (λ arrows. has_arrow arrows t v) (map-append (λ (join : Txn × Txn). (join.0.0, join.1.0)) (joins_of used.t (noted used.x.0)) (joined_with noted users))
    ∙ has_append (join_arrows (joins_of used.t (noted used.x.0))) (join_arrows (joined_with noted users)) t v) ∙ h in
    elim (or_cases (has_arrow (join_arrows (joins_of used.t (noted used.x.0))) t v) _ split) [
      | inl here ↦ go (noted used.x.0) refl here
      | inr later ↦
          let found = joined_real noted users t v later in
          (found.0, found.1, or_right (eqb used.x.0 found.0 && eqb used.t.0 t) _ found.2, found.3, found.4)
    ] where
      go : (at : Option Txn) → noted used.x.0 ≡ at → has_arrow (join_arrows (joins_of used.t at)) t v ≡ true
          → (x : ℕ) × (s : Txn) × (((eqb used.x.0 x && eqb used.t.0 t) || has_user users t x) ≡ true) × (noted x ≡ Some s) × (s.0 ≡ v)
      go None is some = absurd (false≢true some)
      go (Some s) is some = elim (or_cases (eqb used.t.0 t && eqb s.0 v) _ some) [
        | inl one ↦
            let parts = and_parts (eqb used.t.0 t) _ one in
            (used.x.0, s, or_left _ _ (and_from _ _ (eq-eqb used.x.0 used.x.0 refl) parts.0), is, eqb-true s.0 v parts.1)
        | inr none ↦ absurd (false≢true none)
      ]

-- ---- the few joins

-- each is of two who meet
pub few_met : (entries : List Entry) (u v : ℕ) → has_arrow (join_arrows (meetings_of entries)) u v ≡ true → Meet (applied entries) u v
unfolding meetings_of meetings_by join_arrows
few_met entries u v h = elim (or_cases (has_arrow (join_arrows (joined_with (first_user operated) opened)) u v) _ split) [
  | inl one ↦
      let found = joined_real (first_user operated) opened u v one in
      let second = first_uses operated found.0 found.1 found.3 in
      (found.0, inl (opening u found.0 found.2, subst (λ n. operates (applied entries) n found.0 ≡ true) found.4 (operation found.1.0 found.0 second)))
  | inr one ↦
      let found = joined_real (first_user opened) operated u v one in
      let second = first_uses opened found.0 found.1 found.3 in
      (found.0, inr (operation u found.0 found.2, subst (λ n. opens (applied entries) n found.0 ≡ true) found.4 (opening found.1.0 found.0 second)))
] where
  opened : List User
  opened = openers_of entries

  operated : List User
  operated = operators_of (first_user opened) entries

  split : (has_arrow (join_arrows (joined_with (first_user operated) opened)) u v || has_arrow (join_arrows (joined_with (first_user opened) operated)) u v) ≡ true
  split =
      sym (ap (λ arrows. has_arrow arrows u v) (map-append (λ (join : Txn × Txn). (join.0.0, join.1.0)) (joined_with (first_user operated) opened) (joined_with (first_user opened) operated))
      ∙ has_append (join_arrows (joined_with (first_user operated) opened)) (join_arrows (joined_with (first_user opened) operated)) u v) ∙ h

  opening : (n x : ℕ) → has_user opened n x ≡ true → opens (applied entries) n x ≡ true
  opening n x used = sym (openers_are entries n x) ∙ used

  operation : (n x : ℕ) → has_user operated n x ≡ true → operates (applied entries) n x ≡ true
  operation n x used = (and_parts (is_some (first_user opened x)) _ (sym (operators_are (first_user opened) entries n x) ∙ used)).1

-- an opener and an operator are joined by three of them, through the first operator s and the first opener g
pub few_through : (entries : List Entry) (a t x : ℕ) → opens (applied entries) a x ≡ true → operates (applied entries) t x ≡ true
    → (g s : ℕ) × (has_arrow (join_arrows (meetings_of entries)) a s ≡ true) × (has_arrow (join_arrows (meetings_of entries)) g s ≡ true) × (has_arrow (join_arrows (meetings_of entries)) t g ≡ true)
unfolding meetings_of meetings_by join_arrows
few_through entries a t x opening operation =
    let opens_x = openers_are entries a x ∙ opening in
    let first = first_found opened a x opens_x in
    let operates_x = operators_are (first_user opened) entries t x ∙ and_from _ _ (ap is_some first.1) operation in
    let other = first_found operated t x operates_x in (
      first.0.0,
      other.0.0,
      left a other.0.0 (joined_there (first_user operated) opened a x other.0 opens_x other.1),
      left first.0.0 other.0.0 (joined_there (first_user operated) opened first.0.0 x other.0 (first_uses opened x first.0 first.1) other.1),
      right t first.0.0 (joined_there (first_user opened) operated t x first.0 operates_x first.1),
    ) where
      opened : List User
      opened = openers_of entries

      operated : List User
      operated = operators_of (first_user opened) entries

      both : (u v : ℕ) → has_arrow (join_arrows (joined_with (first_user operated) opened ++ joined_with (first_user opened) operated)) u v
          ≡ (has_arrow (join_arrows (joined_with (first_user operated) opened)) u v || has_arrow (join_arrows (joined_with (first_user opened) operated)) u v)
      both u v =
          ap (λ arrows. has_arrow arrows u v) (map-append (λ (join : Txn × Txn). (join.0.0, join.1.0)) (joined_with (first_user operated) opened) (joined_with (first_user opened) operated))
          ∙ has_append (join_arrows (joined_with (first_user operated) opened)) (join_arrows (joined_with (first_user opened) operated)) u v

      left : (u v : ℕ) → has_arrow (join_arrows (joined_with (first_user operated) opened)) u v ≡ true → has_arrow (join_arrows (joined_with (first_user operated) opened ++ joined_with (first_user opened) operated)) u v ≡ true
      left u v h = both u v ∙ or_left _ _ h

      right : (u v : ℕ) → has_arrow (join_arrows (joined_with (first_user opened) operated)) u v ≡ true → has_arrow (join_arrows (joined_with (first_user operated) opened ++ joined_with (first_user opened) operated)) u v ≡ true
      right u v h = both u v ∙ or_right (has_arrow (join_arrows (joined_with (first_user operated) opened)) u v) _ h
