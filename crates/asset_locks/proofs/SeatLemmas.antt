-- The table stays tied, and shows the same rows, as others take seats and leave them.
use Rattle.std.proofs.Common.{◌≡◌, ◌⊎◌, ℕ, Bool, true, eqb, cond, Option, Some, None, is_some, refl, sym, ap, subst, ◌∙◌, inl, inr}
use Rattle.std.proofs.lemmas.Bool.{eqb-true, eqb-false, eq-eqb, ne_eqb, cases_Bool, true≢false}
use Rattle.asset_names.specs.declared.names.Txn.{Txn}
use Rattle.asset_names.proofs.Common.{one_txn, some_of, some_is_not_none}
use Rattle.asset_chains.specs.Chained.{chain_of, home_of, lists, IsConsistent}
use Rattle.asset_chains.proofs.Walks.{map_same}
use Rattle.asset_seats.specs.Seated.{Seated, seat}
use Rattle.asset_locks.specs.LockTable.{enrolled_in}
use Rattle.asset_lock_store.specs.Stored.{locks_at}
use Rattle.asset_locks.specs.Tied.{name_or_zero, pending_at, row_at, rows_of, LockParts, rows_in, IsTied, HasRoom}
use Rattle.asset_locks.proofs.TableLemmas.{row_found}

module _ (table : LockParts) (seats after : Seated) where
  -- the rows are those of seats in the chain of enrolment
  pub rows_same : ((c : ℕ) → lists (chain_of table.order 0) c ≡ true → seat after c ≡ seat seats c) → rows_in after table ≡ rows_in seats table
  unfolding rows_of row_at
  rows_same same = map_same (row_at after table.pending table.store) (row_at seats table.pending table.store) (chain_of table.order 0)
      (λ c there. ap (λ (o : Option Txn). record { name = name_or_zero o; pending = pending_at table.pending c; locks = locks_at table.store c }) (same c there))

  -- nobody's seat changed
  module _ (same : (c : ℕ) → seat after c ≡ seat seats c) where
    pub tied_same : IsTied table seats → IsTied table after
    tied_same tied = record {
      enrolled = λ c d home. let was = tied.enrolled c d home in (was.0, ap is_some (same c) ∙ was.1);
      single = λ c d t here there. tied.single c d t (sym (same c) ∙ here) (sym (same d) ∙ there);
      places = λ c t here. tied.places c t (sym (same c) ∙ here);
      holders = tied.holders;
    }

    pub shows_same : rows_in after table ≡ rows_in seats table
    shows_same = rows_same (λ c _. same c)

  -- somebody who is not enrolled left its seat
  module _ (c : ℕ) (out : home_of table.order c ≡ None) (leaves : (d : ℕ) → seat after d ≡ cond (eqb d c) None (seat seats d)) where
    stays : (d : ℕ) → (d ≡ c → ⊥) → seat after d ≡ seat seats d
    stays d apart = leaves d ∙ ap (λ (b : Bool). cond b None (seat seats d)) (ne_eqb d c apart)

    apart_from : (d e : ℕ) → home_of table.order d ≡ Some e → d ≡ c → ⊥
    apart_from d e home same = some_is_not_none e (sym home ∙ ap (home_of table.order) same ∙ out)

    still : (d : ℕ) (u : Txn) → seat after d ≡ Some u → seat seats d ≡ Some u
    still d u here = elim (cases_Bool (eqb d c)) [
      | inl is ↦ absurd (some_is_not_none u (sym here ∙ leaves d ∙ ap (λ (b : Bool). cond b None (seat seats d)) is))
      | inr apart ↦ sym (stays d (eqb-false d c apart)) ∙ here
    ]

    pub tied_left : IsTied table seats → IsTied table after
    tied_left tied = record {
      enrolled = λ d e home. let was = tied.enrolled d e home in (was.0, ap is_some (stays d (apart_from d e home)) ∙ was.1);
      single = λ d e u here there. tied.single d e u (still d u here) (still e u there);
      places = λ d u here. tied.places d u (still d u here);
      holders = tied.holders;
    }

    pub shows_left : IsConsistent table.order → rows_in after table ≡ rows_in seats table
    shows_left sound = rows_same (λ d there. stays d (apart_from d 0 (sound.at_home 0 d there)))

  -- somebody who had none took a seat, for which there is room
  module _ (c : ℕ) (t : Txn) (free : seat seats c ≡ None) (sits : (d : ℕ) → seat after d ≡ cond (eqb d c) (Some t) (seat seats d)) where
    kept : (d : ℕ) → (d ≡ c → ⊥) → seat after d ≡ seat seats d
    kept d apart = sits d ∙ ap (λ (b : Bool). cond b (Some t) (seat seats d)) (ne_eqb d c apart)

    pub sits_now : seat after c ≡ Some t
    sits_now = sits c ∙ ap (λ (b : Bool). cond b (Some t) (seat seats c)) (eq-eqb c c refl)

    not_free : (d : ℕ) → is_some (seat seats d) ≡ true → d ≡ c → ⊥
    not_free d there same = true≢false (sym there ∙ ap (λ (n : ℕ). is_some (seat seats n)) same ∙ ap is_some free)

    pub tied_sits : ((d : ℕ) → seat seats d ≡ Some t → ⊥) → HasRoom table c → IsTied table seats → IsTied table after
    tied_sits absent room tied = record {
      enrolled = λ d e home. let was = tied.enrolled d e home in (was.0, ap is_some (kept d (not_free d was.1)) ∙ was.1);
      single = λ d e u here there. elim (cases_Bool (eqb d c)) [
        | inl first ↦ elim (cases_Bool (eqb e c)) [
          | inl second ↦ eqb-true d c first ∙ sym (eqb-true e c second)
          | inr apart ↦ absurd (absent e (sym (kept e (eqb-false e c apart)) ∙ there ∙ sym here ∙ ap (seat after) (eqb-true d c first) ∙ sits_now))
        ]
        | inr differ ↦ elim (cases_Bool (eqb e c)) [
          | inl second ↦ absurd (absent d (sym (kept d (eqb-false d c differ)) ∙ here ∙ sym there ∙ ap (seat after) (eqb-true e c second) ∙ sits_now))
          | inr apart ↦ tied.single d e u (sym (kept d (eqb-false d c differ)) ∙ here) (sym (kept e (eqb-false e c apart)) ∙ there)
        ]
      ];
      places = λ d u here. elim (cases_Bool (eqb d c)) [
        | inl is ↦ subst (HasRoom table) (sym (eqb-true d c is)) room
        | inr apart ↦ tied.places d u (sym (kept d (eqb-false d c apart)) ∙ here)
      ];
      holders = tied.holders;
    }

    pub shows_sits : IsTied table seats → IsConsistent table.order → rows_in after table ≡ rows_in seats table
    shows_sits tied sound = rows_same (λ d there. kept d (not_free d (tied.enrolled d 0 (sound.at_home 0 d there)).1))

-- ---- who is enrolled has a seat
pub seat_of_enrolled : (table : LockParts) (seats : Seated) → IsTied table seats → IsConsistent table.order → (t : Txn) → is_some (enrolled_in (rows_in seats table) t.0) ≡ true → (c : ℕ) × (seat seats c ≡ Some t)
seat_of_enrolled table seats tied sound t there =
    let row = some_of (enrolled_in (rows_in seats table) t.0) there in
    let at = row_found seats table.pending table.order table.store tied sound t.0 row.0 row.1 in
    (at.0, at.2 ∙ ap Some (one_txn at.1 t at.3))

-- who sits after somebody took a seat sat before, or is the one who took it
pub either_sits : (more seats after : Seated) (c : ℕ) (t : Txn) → ((d : ℕ) → seat more d ≡ seat seats d) → ((d : ℕ) → seat after d ≡ cond (eqb d c) (Some t) (seat more d)) → (d : ℕ) (u : Txn) → seat after d ≡ Some u → (seat seats d ≡ Some u) ⊎ (u ≡ t)
either_sits more seats after c t same sits d u here = elim (cases_Bool (eqb d c)) [
  | inl is ↦ let e : Some u ≡ Some t = sym here ∙ sits d ∙ ap (λ (b : Bool). cond b (Some t) (seat more d)) is in inr cc
  | inr apart ↦ inl (sym (same d) ∙ sym (sits d ∙ ap (λ (b : Bool). cond b (Some t) (seat more d)) apart) ∙ here)
]
