-- Who is enrolled stays so through the calls of the table by name.
use Rattle.std.proofs.Common.{◌≡◌, ℕ, ◌⊎◌, Bool, true, false, eqb, not, cond, [], ◌∷◌, ◌++◌, filter, map, Option, Some, None, is_some, refl, sym, ap, ◌∙◌, inl, inr}
use Rattle.std.specs.Prelude.{find, Result, Ok, Err, OnOk, OnErr}
use Rattle.std.proofs.lemmas.Bool.{eqb-true, eqb-false, cases_Bool, true≢false}
use Rattle.asset_names.specs.declared.names.Txn.{Txn}
use Rattle.asset_names.specs.declared.names.Ob.{Ob}
use Rattle.asset_names.specs.declared.operations.Op.{Op}
use Rattle.asset_names.specs.OpSets.{OpSet}
use Rattle.asset_names.proofs.Common.{one_txn, some_is_not_none}
use Rattle.asset_seats.specs.Seated.{Seated, seat}
use Rattle.asset_locks.specs.LockTable.{Enrolled, LockTable, enrolled_in, enrol_in, release_in, waiting_row, wait_in, granted_row, grant_in, lock_in}
use Rattle.asset_lock_store.specs.LockRules.{ops_with, granted_own, suspended}
use Rattle.asset_locks.specs.Valid.{after_ask}
use Rattle.asset_locks.specs.Tied.{SittersAreEnrolled}
use Rattle.asset_locks.proofs.HandLaws.{found_changed}

-- ---- the rows that a change of the table keeps
-- a request changes no name
pub enrolled_after_ask : (free : Bool) (t : ℕ) (x : Ob) (op : Op) (table : LockTable) (n : ℕ) → is_some (enrolled_in (after_ask free t x op table) n) ≡ is_some (enrolled_in table n)
unfolding after_ask wait_in waiting_row grant_in granted_row enrolled_in
enrolled_after_ask true t x op table n = found_changed _ n table (λ who. granted (ops_with op (lock_in table t x.0)) who (eqb who.name t)) where
  granted : (ops : OpSet) (who : Enrolled) (b : Bool) → (cond b (record who { pending = None; locks = granted_own x op who.locks }) (record who { locks = map (suspended x.0 ops) who.locks })).name ≡ who.name
  granted ops who true = refl
  granted ops who false = refl
enrolled_after_ask false t x op table n = found_changed _ n table (λ who. waiting who (eqb who.name t)) where
  waiting : (who : Enrolled) (b : Bool) → (cond b (record who { pending = Some (x, op) }) who).name ≡ who.name
  waiting who true = refl
  waiting who false = refl

-- who is enrolled stays so when one more is
pub enrolled_before : (t n : ℕ) (table : LockTable) → is_some (enrolled_in table n) ≡ true → is_some (enrolled_in (enrol_in t table) n) ≡ true
unfolding enrolled_in enrol_in
enrolled_before t n [] there = absurd (true≢false (sym there))
enrolled_before t n (who ∷ table) there = go (eqb who.name n) there (enrolled_before t n table) where
  go : (b : Bool) → is_some (cond b (Some who) (find (λ (w : Enrolled). eqb w.name n) table)) ≡ true
      → (is_some (find (λ (w : Enrolled). eqb w.name n) table) ≡ true → is_some (find (λ (w : Enrolled). eqb w.name n) (table ++ record { name = t; pending = None; locks = [] } ∷ [])) ≡ true)
      → is_some (cond b (Some who) (find (λ (w : Enrolled). eqb w.name n) (table ++ record { name = t; pending = None; locks = [] } ∷ []))) ≡ true
  go true h rest = refl
  go false h rest = rest h

-- and when another is released
pub enrolled_still : (t n : ℕ) (table : LockTable) → (n ≡ t → ⊥) → is_some (enrolled_in table n) ≡ true → is_some (enrolled_in (release_in (λ m. eqb m t) table) n) ≡ true
unfolding enrolled_in release_in
enrolled_still t n [] apart there = absurd (true≢false (sym there))
enrolled_still t n (who ∷ table) apart there = go (enrolled_still t n table apart) (cases_Bool (eqb who.name t)) (cases_Bool (eqb who.name n)) where
  go : (is_some (find (λ (w : Enrolled). eqb w.name n) table) ≡ true → is_some (find (λ (w : Enrolled). eqb w.name n) (filter (λ (w : Enrolled). not (eqb w.name t)) table)) ≡ true) → (eqb who.name t ≡ true) ⊎ (eqb who.name t ≡ false) → (eqb who.name n ≡ true) ⊎ (eqb who.name n ≡ false) → is_some (find (λ (w : Enrolled). eqb w.name n) (filter (λ (w : Enrolled). not (eqb w.name t)) (who ∷ table))) ≡ true
  go rest (inl gone) (inl here) = absurd (apart (sym (eqb-true who.name n here) ∙ eqb-true who.name t gone))
  go rest (inl gone) (inr other) =
      ap (λ (b : Bool). is_some (find (λ (w : Enrolled). eqb w.name n) (cond (not b) (who ∷ filter (λ (w : Enrolled). not (eqb w.name t)) table) (filter (λ (w : Enrolled). not (eqb w.name t)) table)))) gone
      ∙ rest (sym (ap (λ (b : Bool). is_some (cond b (Some who) (find (λ (w : Enrolled). eqb w.name n) table))) other) ∙ there)
  go rest (inr stays) (inl here) =
      ap (λ (b : Bool). is_some (find (λ (w : Enrolled). eqb w.name n) (cond (not b) (who ∷ filter (λ (w : Enrolled). not (eqb w.name t)) table) (filter (λ (w : Enrolled). not (eqb w.name t)) table)))) stays
      ∙ ap (λ (b : Bool). is_some (cond b (Some who) (find (λ (w : Enrolled). eqb w.name n) (filter (λ (w : Enrolled). not (eqb w.name t)) table)))) here
  go rest (inr stays) (inr other) =
      ap (λ (b : Bool). is_some (find (λ (w : Enrolled). eqb w.name n) (cond (not b) (who ∷ filter (λ (w : Enrolled). not (eqb w.name t)) table) (filter (λ (w : Enrolled). not (eqb w.name t)) table)))) stays
      ∙ ap (λ (b : Bool). is_some (cond b (Some who) (find (λ (w : Enrolled). eqb w.name n) (filter (λ (w : Enrolled). not (eqb w.name t)) table)))) other
      ∙ rest (sym (ap (λ (b : Bool). is_some (cond b (Some who) (find (λ (w : Enrolled). eqb w.name n) table))) other) ∙ there)

-- ---- who has a seat is enrolled
-- nobody took a seat, and the rows are of the same names
pub enrolled_same : (seats after : Seated) (rows changed : LockTable) → ((c : ℕ) → seat after c ≡ seat seats c) → ((n : ℕ) → is_some (enrolled_in changed n) ≡ is_some (enrolled_in rows n)) → SittersAreEnrolled seats rows → SittersAreEnrolled after changed
enrolled_same seats after rows changed seated names all c t sits = names t.0 ∙ all c t (sym (seated c) ∙ sits)

-- one more has a seat, and is enrolled
pub enrolled_more : (seats after : Seated) (rows more : LockTable) (t : Txn) → ((c : ℕ) (u : Txn) → seat after c ≡ Some u → (seat seats c ≡ Some u) ⊎ (u ≡ t)) → ((n : ℕ) → is_some (enrolled_in rows n) ≡ true → is_some (enrolled_in more n) ≡ true)
    → is_some (enrolled_in more t.0) ≡ true → SittersAreEnrolled seats rows → SittersAreEnrolled after more
enrolled_more seats after rows more t seated stay here all c u sits = elim (seated c u sits) [
  | inl before ↦ stay u.0 (all c u before)
  | inr new ↦ ap (λ (n : Txn). is_some (enrolled_in more n.0)) new ∙ here
]

-- one is released, and left its seat
pub enrolled_less : (seats left : Seated) (rows : LockTable) (c : ℕ) (t : Txn) → seat seats c ≡ Some t → ((d e : ℕ) (u : Txn) → seat seats d ≡ Some u → seat seats e ≡ Some u → d ≡ e) → ((d : ℕ) → seat left d ≡ cond (eqb d c) None (seat seats d))
    → SittersAreEnrolled seats rows → SittersAreEnrolled left (release_in (λ n. eqb n t.0) rows)
enrolled_less seats left rows c t sits single leaves all d u here = elim (cases_Bool (eqb d c)) [
  | inl is ↦ absurd (some_is_not_none u (sym here ∙ leaves d ∙ ap (λ (b : Bool). cond b None (seat seats d)) is))
  | inr apart ↦
      let was : seat seats d ≡ Some u = sym (ap (λ (b : Bool). cond b None (seat seats d)) apart) ∙ sym (leaves d) ∙ here in
      enrolled_still t.0 u.0 rows (λ same. eqb-false d c apart (single d c t (was ∙ ap Some (one_txn u t same)) sits)) (all d u was)
]

-- who is enrolled stays so when one is who may be enrolled already
pub enrolled_either : (rows more : LockTable) (t : ℕ) → (enrolled_in rows t ≡ None → more ≡ enrol_in t rows) → (is_some (enrolled_in rows t) ≡ true → more ≡ rows) → (n : ℕ) → is_some (enrolled_in rows n) ≡ true → is_some (enrolled_in more n) ≡ true
enrolled_either rows more t done again n there = go (enrolled_in rows t) refl where
  go : (o : Option Enrolled) → enrolled_in rows t ≡ o → is_some (enrolled_in more n) ≡ true
  go None e = ap (λ (l : LockTable). is_some (enrolled_in l n)) (done e) ∙ enrolled_before t n rows there
  go (Some who) e = ap (λ (l : LockTable). is_some (enrolled_in l n)) (again (ap is_some e)) ∙ there

-- the rows after a request, whether it was answered or not
pub either_way : {T E : Type 0} (r : Result T E) (rows changed asked : LockTable) → OnOk r (changed ≡ asked) → OnErr r (changed ≡ rows) → ((n : ℕ) → is_some (enrolled_in asked n) ≡ is_some (enrolled_in rows n)) → (n : ℕ) → is_some (enrolled_in changed n) ≡ is_some (enrolled_in rows n)
either_way (Ok x) rows changed asked done unchanged names n = ap (λ (l : LockTable). is_some (enrolled_in l n)) done ∙ names n
either_way (Err e) rows changed asked done unchanged names n = ap (λ (l : LockTable). is_some (enrolled_in l n)) unchanged
