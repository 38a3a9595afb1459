-- A seat moves from its chain to another: somebody sits down or leaves, or each seat moves to its bucket.
use Rattle.std.proofs.Common.{◌≡◌, ℕ, ◌<◌, Bool, true, false, cond, eqb, List, length, set, suc, Option, Some, None, is_some, refl, sym, ap, ◌∙◌, arith, inl, inr}
use Rattle.std.proofs.lemmas.Bool.{eqb-true, eqb-false, cases_eq}
use Rattle.std.proofs.lemmas.List.{get_or-set_same, get_or-set_other}
use Rattle.asset_names.specs.declared.names.Txn.{Txn}
use Rattle.asset_chains.specs.Chained.{Chained, chain_of, home_of, unlinked}
use Rattle.asset_chains.proofs.Laws.{unlinks, unlinks_nothing}
use Rattle.asset_seats.specs.Seated.{Seated, seat}
use Rattle.asset_seats.specs.Bucketed.{bucket_in, no_name, name_in, taken, seats_of, AreBucketed}
use Rattle.asset_seats.proofs.SeatLemmas.{seat_at, seat_is}

-- a key that is out of its chain, if it was in one
pub record IsOut (k : ℕ) (old new : Chained) : Type 0 where
  pub home : home_of new k ≡ None
  pub homes : (j : ℕ) → (j ≡ k → ⊥) → home_of new j ≡ home_of old j
  pub chains : (c : ℕ) → (home_of old k ≡ Some c → ⊥) → chain_of new c ≡ chain_of old c
  pub same_chains : length new.chains ≡ length old.chains
  pub same_keys : length new.homes ≡ length old.homes

pub is_out : (k : ℕ) (old new : Chained) → new ≡ unlinked k old → IsOut k old new
is_out k old new is = go (home_of old k) refl where
  go : (o : Option ℕ) → home_of old k ≡ o → IsOut k old new
  go None e =
      let same : new ≡ old = is ∙ unlinks_nothing k old e in
      record {
        home = ap (λ (t : Chained). home_of t k) same ∙ e;
        homes = λ j apart. ap (λ (t : Chained). home_of t j) same;
        chains = λ c apart. ap (λ (t : Chained). chain_of t c) same;
        same_chains = ap (λ (t : Chained). length t.chains) same;
        same_keys = ap (λ (t : Chained). length t.homes) same;
      }
  go (Some c) e =
      let change = unlinks c k old new e is in
      record {
        home = change.home;
        homes = change.homes;
        chains = λ d apart. change.chains d (λ same. apart (e ∙ ap Some (sym same)));
        same_chains = change.same_chains;
        same_keys = change.same_keys;
      }

-- the name of one seat is written, and the others stay
pub name_here : (names : List Txn) (c : ℕ) (t : Txn) → c < length names → name_in (set names c t) c ≡ t
unfolding name_in
name_here names c t within = get_or-set_same names c t no_name within

pub name_there : (names : List Txn) (c : ℕ) (t : Txn) (j : ℕ) → (j ≡ c → ⊥) → name_in (set names c t) j ≡ name_in names j
unfolding name_in
name_there names c t j apart = get_or-set_other names c j t no_name apart

bucket_same : (t u : Txn) (buckets : ℕ) → t ≡ u → bucket_in t.0 buckets ≡ bucket_in u.0 buckets
bucket_same t u buckets same = ap (λ (v : Txn). bucket_in v.0 buckets) same

module _ (names more : List Txn) (table new : Chained) (buckets k : ℕ) (t : Txn) (kept : AreBucketed names table buckets)
    (absent : (j a : ℕ) → home_of table j ≡ Some (suc a) → name_in names j ≡ t → ⊥)
    (home : home_of new k ≡ Some (suc (bucket_in t.0 buckets))) (homes : (j : ℕ) → (j ≡ k → ⊥) → home_of new j ≡ home_of table j)
    (keys : length new.homes ≡ length table.homes) (many : length new.chains ≡ length table.chains)
    (here : name_in more k ≡ t) (there : (j : ℕ) → (j ≡ k → ⊥) → name_in more j ≡ name_in names j) (size : length more ≡ length names) where
  sits_homed : (j : ℕ) → j < length new.homes → is_some (home_of new j) ≡ true
  sits_homed j within = elim (cases_eq j k) [
    | inl same ↦ ap is_some (ap (home_of new) same ∙ home)
    | inr apart ↦ ap is_some (homes j apart) ∙ kept.homed j (omega (arith, within, keys))
  ]

  sits_bucketed : (j b : ℕ) → home_of new j ≡ Some (suc b) → b ≡ bucket_in (name_in more j).0 buckets
  sits_bucketed j b at = elim (cases_eq j k) [
    | inl same ↦
        let it : Some (suc b) ≡ Some (suc (bucket_in t.0 buckets)) = sym at ∙ ap (home_of new) same ∙ home in
        let is : b ≡ bucket_in t.0 buckets = cc it in
        is ∙ sym (bucket_same (name_in more j) t buckets (ap (name_in more) same ∙ here))
    | inr apart ↦ kept.bucketed j b (sym (homes j apart) ∙ at) ∙ sym (bucket_same (name_in more j) (name_in names j) buckets (there j apart))
  ]

  sits_one : (j i a b : ℕ) → home_of new j ≡ Some (suc a) → home_of new i ≡ Some (suc b) → name_in more j ≡ name_in more i → j ≡ i
  sits_one j i a b at_j at_i same = elim (cases_eq j k) [
    | inl j_is ↦ elim (cases_eq i k) [
      | inl i_is ↦ j_is ∙ sym i_is
      | inr i_not ↦ absurd (absent i b (sym (homes i i_not) ∙ at_i) (sym (there i i_not) ∙ sym same ∙ ap (name_in more) j_is ∙ here))
    ]
    | inr j_not ↦ elim (cases_eq i k) [
      | inl i_is ↦ absurd (absent j a (sym (homes j j_not) ∙ at_j) (sym (there j j_not) ∙ same ∙ ap (name_in more) i_is ∙ here))
      | inr i_not ↦ kept.one j i a b (sym (homes j j_not) ∙ at_j) (sym (homes i i_not) ∙ at_i) (sym (there j j_not) ∙ same ∙ there i i_not)
    ]
  ]

  pub sits_valid : AreBucketed more new buckets
  sits_valid = record {
    named = omega (arith, kept.named, keys, size);
    homed = sits_homed;
    bucketed = sits_bucketed;
    one = sits_one;
    ready = λ some. kept.ready (omega (arith, some, keys));
    within = omega (arith, kept.within, many);
  }

  -- who has which seat
  pub sits_seats : (now : Seated) → seats_of names table ≡ now → (d : ℕ) → seat (seats_of more new) d ≡ cond (eqb d k) (Some t) (seat now d)
  sits_seats now view d = seat_at more new d ∙ go (eqb d k) refl where
    go : (b : Bool) → eqb d k ≡ b → taken (home_of new d) (name_in more d) ≡ cond b (Some t) (seat now d)
    go true e = let same = eqb-true d k e in ap (λ (o : Option ℕ). taken o (name_in more d)) (ap (home_of new) same ∙ home) ∙ ap Some (ap (name_in more) same ∙ here)
    go false e =
        let apart = eqb-false d k e in
        ap (λ (o : Option ℕ). taken o (name_in more d)) (homes d apart) ∙ ap (taken (home_of table d)) (there d apart) ∙ sym (seat_is names table now d view)

module _ (names : List Txn) (table new : Chained) (buckets k : ℕ) (kept : AreBucketed names table buckets)
    (home : home_of new k ≡ Some 0) (homes : (j : ℕ) → (j ≡ k → ⊥) → home_of new j ≡ home_of table j)
    (keys : length new.homes ≡ length table.homes) (many : length new.chains ≡ length table.chains) where
  -- a seat in a bucket was in it before
  stayed : (j b : ℕ) → home_of new j ≡ Some (suc b) → home_of table j ≡ Some (suc b)
  stayed j b at = elim (cases_eq j k) [
    | inl same ↦ let wrong : Some (suc b) ≡ Some 0 = sym at ∙ ap (home_of new) same ∙ home in absurd (cc wrong)
    | inr apart ↦ sym (homes j apart) ∙ at
  ]

  pub leaves_valid : AreBucketed names new buckets
  leaves_valid = record {
    named = omega (arith, kept.named, keys);
    homed = λ j within. elim (cases_eq j k) [
      | inl same ↦ ap is_some (ap (home_of new) same ∙ home)
      | inr apart ↦ ap is_some (homes j apart) ∙ kept.homed j (omega (arith, within, keys))
    ];
    bucketed = λ j b at. kept.bucketed j b (stayed j b at);
    one = λ j i a b at_j at_i same. kept.one j i a b (stayed j a at_j) (stayed i b at_i) same;
    ready = λ some. kept.ready (omega (arith, some, keys));
    within = omega (arith, kept.within, many);
  }

  pub leaves_seats : (now : Seated) → seats_of names table ≡ now → (d : ℕ) → seat (seats_of names new) d ≡ cond (eqb d k) None (seat now d)
  leaves_seats now view d = seat_at names new d ∙ go (eqb d k) refl where
    go : (b : Bool) → eqb d k ≡ b → taken (home_of new d) (name_in names d) ≡ cond b None (seat now d)
    go true e = ap (λ (o : Option ℕ). taken o (name_in names d)) (ap (home_of new) (eqb-true d k e) ∙ home)
    go false e = ap (λ (o : Option ℕ). taken o (name_in names d)) (homes d (eqb-false d k e)) ∙ sym (seat_is names table now d view)

-- one who has no seat has none in a bucket
pub sat_nowhere : (names : List Txn) (table : Chained) (now : Seated) (t : Txn) → seats_of names table ≡ now → ((c : ℕ) → seat now c ≡ Some t → ⊥) → (j a : ℕ) → home_of table j ≡ Some (suc a) → name_in names j ≡ t → ⊥
sat_nowhere names table now t view absent j a home name = absent j (seat_is names table now j view ∙ ap (λ (o : Option ℕ). taken o (name_in names j)) home ∙ ap Some name)

-- nobody leaves a seat that nobody has
pub leaves_nothing : (now : Seated) (c : ℕ) → seat now c ≡ None → (d : ℕ) → seat now d ≡ cond (eqb d c) None (seat now d)
leaves_nothing now c none d = go (eqb d c) refl where
  go : (b : Bool) → eqb d c ≡ b → seat now d ≡ cond b None (seat now d)
  go true e = ap (seat now) (eqb-true d c e) ∙ none
  go false e = refl
