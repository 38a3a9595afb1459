-- Who has a seat, and which chains are used.
use Rattle.std.proofs.Common.{◌≡◌, ℕ, Bool, true, false, cond, eqb, not, ◌&&◌, ◌||◌, Option, Some, None, is_some, refl, sym, ap, ◌∙◌, ◌⊎◌, inl, inr}
use Rattle.std.proofs.lemmas.Bool.{or_cases, or_left, eqb-true, eqb-false, eq-eqb, ne_eqb, cases_eq}
use Rattle.slab.specs.Slab.{get}
use Rattle.asset_names.specs.declared.names.Txn.{Txn}
use Rattle.asset_names.proofs.Common.{some_of}
use Rattle.asset_chains.specs.Chained.{Chained, chain_of, home_of, first_of, IsConsistent}
use Rattle.asset_chains.proofs.KeyLemmas.{first_listed as first_is_listed, first_is_some}
use Rattle.asset_seats.specs.Seated.{Seated, seat}
use Rattle.asset_permits.specs.Descriptors.{Descriptor}
use Rattle.asset_chains.specs.declared.side.Side.TheVariants.{Row, Column}
use Rattle.asset_chains.specs.Crossed.{Crossed, IsCrossed}
use Rattle.asset_permits.specs.Valid.{Parts, parts_of, is_used, IsUsed, IsSeated}
use Rattle.asset_permits.specs.Changes.{Sits}

-- ---- which chains are used
pub used_along : (along across : Chained) (k c : ℕ) → IsConsistent along → home_of along k ≡ Some c → is_used along across c ≡ true
unfolding is_used
used_along along across k c sound home = or_left _ _ (first_is_some (chain_of along c) k (sound.listed c k home))

pub used_turned : (along across : Chained) (c : ℕ) → is_used along across c ≡ is_used across along c
unfolding is_used
used_turned along across c = either (is_some (first_of (chain_of along c))) (is_some (first_of (chain_of across c))) where
  either : (a b : Bool) → (a || b) ≡ (b || a)
  either true true = refl
  either true false = refl
  either false true = refl
  either false false = refl

pub used_across : (along across : Chained) (k c : ℕ) → IsConsistent across → home_of across k ≡ Some c → is_used along across c ≡ true
used_across along across k c sound home = used_turned along across c ∙ used_along across along k c sound home

pub key_of_used : (along across : Chained) (c : ℕ) → IsConsistent along → IsConsistent across → is_used along across c ≡ true → (k : ℕ) × ((home_of along k ≡ Some c) ⊎ (home_of across k ≡ Some c))
unfolding is_used
key_of_used along across c sound sound_across used = elim (or_cases (is_some (first_of (chain_of along c))) (is_some (first_of (chain_of across c))) used) [
  | inl first ↦ let key = some_of (first_of (chain_of along c)) first in (key.0, inl (sound.at_home c key.0 (first_is_listed key.0 (chain_of along c) key.1)))
  | inr first ↦ let key = some_of (first_of (chain_of across c)) first in (key.0, inr (sound_across.at_home c key.0 (first_is_listed key.0 (chain_of across c) key.1)))
]

pub used_same : (along across longer longer_across : Chained) (c : ℕ) → chain_of longer c ≡ chain_of along c → chain_of longer_across c ≡ chain_of across c → is_used longer longer_across c ≡ is_used along across c
unfolding is_used
used_same along across longer longer_across c same same_across = λ i. is_some (first_of (same i)) || is_some (first_of (same_across i))

-- ---- homes and seats
-- a permit has homes
pub home_along : (p : Parts) (k : ℕ) (d : Descriptor) → IsSeated p → get p.permits k ≡ Some d → (c : ℕ) × (home_of p.along k ≡ Some c)
home_along p k d seated there = some_of (home_of p.along k) (sym (seated.along k) ∙ ap is_some there)

pub home_at_end : (p : Parts) (k : ℕ) (d : Descriptor) → IsSeated p → get p.permits k ≡ Some d → (c : ℕ) × (home_of p.across k ≡ Some c)
home_at_end p k d seated there = some_of (home_of p.across k) (sym (seated.across k) ∙ ap is_some there)

-- exactly the permits have homes
pub seated_by : (permits : Crossed Descriptor) (seats : Seated) → IsCrossed permits → IsSeated (parts_of permits seats)
seated_by permits seats crossed = record { along = λ k. sym (crossed.placed Row k); across = λ k. sym (crossed.placed Column k) }

-- ---- who sits down
pub sits_here : (t : Txn) (s : ℕ) (old new : Seated) → Sits t s old new → seat new s ≡ Some t
sits_here t s old new sits = sits.seats s ∙ ap (λ (b : Bool). cond b (Some t) (seat old s)) (eq-eqb s s refl)

pub sits_apart : (t : Txn) (s : ℕ) (old new : Seated) → Sits t s old new → (c : ℕ) → (c ≡ s → ⊥) → seat new c ≡ seat old c
sits_apart t s old new sits c apart = sits.seats c ∙ ap (λ (b : Bool). cond b (Some t) (seat old c)) (ne_eqb c s apart)

-- everybody else keeps its seat
pub sits_keep : (t : Txn) (s : ℕ) (old new : Seated) → Sits t s old new → (c : ℕ) (u : Txn) → seat old c ≡ Some u → seat new c ≡ Some u
sits_keep t s old new sits c u sat = elim (cases_eq c s) [
  | inl here ↦ ap (seat new) here ∙ sits_here t s old new sits ∙ sym (sits.same (ap is_some (ap (seat old) (sym here) ∙ sat))) ∙ ap (seat old) (sym here) ∙ sat
  | inr apart ↦ sits_apart t s old new sits c apart ∙ sat
]

-- one who has just sat down, and whose chains are not used, leaves again
pub left_again : (giver : Txn) (from : ℕ) (permits more : Crossed Descriptor) (old mid same new : Seated) → IsUsed permits old → Sits giver from old mid → ((c : ℕ) → seat same c ≡ seat mid c)
    → ((c : ℕ) → is_used more.rows more.columns c ≡ is_used permits.rows permits.columns c) → ((c : ℕ) → seat new c ≡ cond (eqb c from && not (is_used more.rows more.columns c)) None (seat same c)) → (c : ℕ) → seat new c ≡ seat old c
left_again giver from permits more old mid same new used sits same_is alike leaves c = leaves c ∙ go (eqb c from) refl where
  still : is_used more.rows more.columns c ≡ is_some (seat old c)
  still = alike c ∙ sym (used c)

  at : (o : Option Txn) → seat old c ≡ o → c ≡ from → cond (not (is_used more.rows more.columns c)) None (seat same c) ≡ seat old c
  at None e here = ap (λ (b : Bool). cond (not b) None (seat same c)) (still ∙ ap is_some e) ∙ sym e
  at (Some t) e here =
      let sat : seat old from ≡ Some t = ap (seat old) (sym here) ∙ e in
      ap (λ (b : Bool). cond (not b) None (seat same c)) (still ∙ ap is_some e)
      ∙ same_is c
      ∙ ap (seat mid) here
      ∙ sits_here giver from old mid sits
      ∙ sym (sits.same (ap is_some sat))
      ∙ ap (seat old) (sym here)

  go : (b : Bool) → eqb c from ≡ b → cond (eqb c from && not (is_used more.rows more.columns c)) None (seat same c) ≡ seat old c
  go true e = ap (λ (b : Bool). cond (b && not (is_used more.rows more.columns c)) None (seat same c)) e ∙ at (seat old c) refl (eqb-true c from e)
  go false e = ap (λ (b : Bool). cond (b && not (is_used more.rows more.columns c)) None (seat same c)) e ∙ same_is c ∙ sits_apart giver from old mid sits c (eqb-false c from e)
