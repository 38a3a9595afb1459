-- Users and joins, one after another.
use Rattle.std.proofs.Common.{◌≡◌, ℕ, ◌+◌, ◌<◌, Bool, true, false, cond, eqb, List, [], ◌∷◌, ◌++◌, append_assoc, get_or, map, take, reverse, length, refl, sym, ap, ◌∙◌, inl, inr, arith, Some, None}
use Rattle.std.specs.Prelude.{Option, slice_get, is_some, flat_map}
use Rattle.std.proofs.lemmas.Bool.{eqb-true, false≢true}
use Rattle.std.proofs.lemmas.List.{take_more, map_more, flat_map_more}
use Rattle.std.proofs.lemmas.Option.{slice_get_cases}
use Rattle.asset_names.specs.declared.names.Txn.{Txn}
use Rattle.asset_names.specs.declared.names.Ob.{Ob}
use Rattle.asset_names.specs.Steps.{Entry}
use Rattle.asset_entries.specs.Operating.{operator_of, operator_at, opener_at}
use Rattle.asset_entries.proofs.EntryLemmas.{next_entry}
use Rattle.asset_meetings.specs.declared.users.User.{User}
use Rattle.asset_meetings.specs.Users.{users_of, opener_users, openers_of, operator_users, operators_of, noted_by, first_user, joins_of, joined_with, meetings_by, meetings_of}

-- the first user after one more use
first_pushed : (users : List User) (used : User) (x : ℕ) → first_user (users ++ used ∷ []) x ≡ noted_by (first_user users x) used x
unfolding first_user noted_by
first_pushed [] used x = refl
first_pushed (other ∷ users) used x = go (eqb other.x.0 x) (first_pushed users used x) where
  go : (here : Bool) → first_user (users ++ used ∷ []) x ≡ noted_by (first_user users x) used x → cond here (Some other.t) (first_user (users ++ used ∷ []) x) ≡ noted_by (cond here (Some other.t) (first_user users x)) used x
  go true rest = refl
  go false rest = rest

pub first_more : (users : List User) (k : ℕ) (used : User) (x : ℕ) → k < length users → first_user (take (k + 1) users) x ≡ noted_by (first_user (take k users) x) (get_or users k used) x
first_more users k used x below = ap (λ l. first_user l x) (take_more users k used below) ∙ first_pushed (take k users) (get_or users k used) x

-- joins after one more use
pub joined_more : (noted : ℕ → Option Txn) (joins : List (Txn × Txn)) (users : List User) (k : ℕ) (used : User) → k < length users
    → (joins ++ joined_with noted (take k users)) ++ joins_of (get_or users k used).t (noted (get_or users k used).x.0) ≡ joins ++ joined_with noted (take (k + 1) users)
unfolding joined_with
joined_more noted joins users k used below =
    flat_map_more (λ (u : User). joins_of u.t (noted u.x.0)) joins (take k users) (get_or users k used)
    ∙ ap (λ l. joins ++ flat_map (λ (u : User). joins_of u.t (noted u.x.0)) l) (sym (take_more users k used below))

-- uses after one more object
pub uses_more : (users : List User) (t : Txn) (obs : List Ob) (k : ℕ) (x : Ob) → k < length obs
    → (users ++ users_of t (take k obs)) ++ record { t = t; x = get_or obs k x } ∷ [] ≡ users ++ users_of t (take (k + 1) obs)
unfolding users_of
uses_more users t obs k x below =
    append_assoc users (map (λ (y : Ob). record { t = t; x = y }) (take k obs)) (record { t = t; x = get_or obs k x } ∷ [])
    ∙ ap (λ l. users ++ l) (sym (map_more (λ (y : Ob). record { t = t; x = y }) obs k x below))

-- openers and operators after one more entry
pub openers_more : (entries : List Entry) (i : ℕ) → i < length entries → openers_of (reverse (take (i + 1) entries)) ≡ openers_of (reverse (take i entries)) ++ opener_users (opener_at (slice_get entries i))
unfolding openers_of
openers_more entries i below = elim (slice_get_cases entries i).1 [
  | inl here ↦ rw (next_entry entries i here.0 here.2, here.2) refl
  | inr past ↦ absurd (omega (arith, past.0))
]

pub operators_more : (noted : ℕ → Option Txn) (entries : List Entry) (i : ℕ) → i < length entries
    → operators_of noted (reverse (take (i + 1) entries)) ≡ operators_of noted (reverse (take i entries)) ++ operator_users noted (operator_at (slice_get entries i))
unfolding operators_of
operators_more noted entries i below = elim (slice_get_cases entries i).1 [
  | inl here ↦ rw (next_entry entries i here.0 here.2, here.2) refl
  | inr past ↦ absurd (omega (arith, past.0))
]

-- if nobody opens anything, nobody meets
none_operated : (entries : List Entry) → operators_of (λ (x : ℕ). None) entries ≡ []
unfolding operators_of operator_users
none_operated [] = refl
none_operated (entry ∷ older) = ap (λ l. l ++ operator_users (λ (x : ℕ). None) (operator_of entry.0 entry.1)) (none_operated older) ∙ go (operator_of entry.0 entry.1) where
  go : (found : Option (Txn × Ob)) → operator_users (λ (x : ℕ). None) found ≡ []
  go None = refl
  go (Some operator) = refl

pub none_meet : (entries : List Entry) → openers_of entries ≡ [] → meetings_of entries ≡ []
unfolding meetings_of meetings_by joined_with first_user
none_meet entries none = rw (none, none_operated entries) refl

-- the map after a use of an object for which nobody is noted
pub noted_new : (found : ℕ → Option Txn) (used : User) (y : ℕ) → found used.x.0 ≡ None → cond (eqb used.x.0 y) (Some used.t) (found y) ≡ noted_by (found y) used y
unfolding noted_by
noted_new found used y none = go (eqb used.x.0 y) refl (found y) refl where
  go : (here : Bool) → eqb used.x.0 y ≡ here → (at : Option Txn) → found y ≡ at → cond here (Some used.t) at ≡ noted_by at used y
  go true is None at = rw (is) refl
  go true is (Some t) at = let none_here : found y ≡ None = ap found (sym (eqb-true used.x.0 y is)) ∙ none in absurd cc
  go false is None at = rw (is) refl
  go false is (Some t) at = refl

pub noted_old : (found : ℕ → Option Txn) (used : User) (y : ℕ) → is_some (found used.x.0) ≡ true → found y ≡ noted_by (found y) used y
unfolding noted_by
noted_old found used y there = go (eqb used.x.0 y) refl (found y) refl where
  go : (here : Bool) → eqb used.x.0 y ≡ here → (at : Option Txn) → found y ≡ at → at ≡ noted_by at used y
  go here is (Some t) at = refl
  go true is None at = let here : is_some {T = Txn} None ≡ true = ap is_some (sym at) ∙ ap (λ z. is_some (found z)) (sym (eqb-true used.x.0 y is)) ∙ there in absurd (false≢true here)
  go false is None at = rw (is) refl
