-- The rows of the table after locks went from one seat to another.
use Rattle.std.proofs.Common.{◌≡◌, ℕ, Bool, true, false, eqb, cond, List, map, filter, Some, sym, ap, ◌∙◌, inl, inr}
use Rattle.std.proofs.lemmas.Bool.{eqb-true, eqb-false, cases_Bool}
use Rattle.asset_names.specs.declared.names.Txn.{Txn}
use Rattle.asset_names.specs.declared.sets.ObSet.{ObSet}
use Rattle.asset_chains.specs.Chained.{Chained, chain_of, home_of, lists, IsConsistent}
use Rattle.asset_seats.specs.Seated.{Seated, seat}
use Rattle.asset_lock_store.specs.declared.lock.Lock.{Lock}
use Rattle.asset_locks.specs.LockTable.{LockTable, PendingRequest, handed_row, hand_over_in, locks_of}
use Rattle.asset_lock_store.specs.LockRules.{moved, left, with_moved}
use Rattle.asset_lock_store.specs.Stored.{Stored, locks_at}
use Rattle.asset_locks.specs.Tied.{name_or_zero, pending_at, row_at, rows_of, AreSeated}
use Rattle.asset_locks.proofs.TableLemmas.{locks_of_enrolled, other_name, own_name, rows_change}

-- nothing changes if both are one
pub hands_to_itself : (giver taker : ℕ) (set : ObSet) (table : LockTable) → eqb giver taker ≡ true → table ≡ hand_over_in giver taker set table
unfolding hand_over_in
hands_to_itself giver taker set table same = sym (ap (λ (b : Bool). cond b table (map (handed_row giver taker set (filter (moved set) (locks_of table giver))) table)) same)

-- two transactions have two seats
pub two_seats : (seats : Seated) (c d : ℕ) (t u : Txn) → seat seats c ≡ Some t → seat seats d ≡ Some u → eqb t.0 u.0 ≡ false → c ≡ d → ⊥
two_seats seats c d t u here there apart same =
    let e : Some t ≡ Some u = sym here ∙ ap (seat seats) same ∙ there in
    let is : t ≡ u = cc in
    eqb-false t.0 u.0 apart (ap (λ (n : Txn). n.0) is)

module _ (seats : Seated) (pending : List PendingRequest) (order : Chained) (store new : Stored) (seated : AreSeated seats pending order store) (sound : IsConsistent order) (set : ObSet)
    (from to : ℕ) (giver taker : Txn) (gives : seat seats from ≡ Some giver) (home : home_of order from ≡ Some 0) (takes : seat seats to ≡ Some taker) (differ : eqb giver.0 taker.0 ≡ false)
    (kept : locks_at new from ≡ left set (locks_at store from)) (came : locks_at new to ≡ with_moved (filter (moved set) (locks_at store from)) (locks_at store to))
    (others : (d : ℕ) → (d ≡ from → ⊥) → (d ≡ to → ⊥) → locks_at new d ≡ locks_at store d) where
  handed_at : (d : ℕ) → lists (chain_of order 0) d ≡ true → row_at seats pending new d ≡ handed_row giver.0 taker.0 set (filter (moved set) (locks_at store from)) (row_at seats pending store d)
  unfolding handed_row row_at
  handed_at d there = elim (cases_Bool (eqb d from)) [
    | inl here ↦
        let is = eqb-true d from here in
        (λ i. record { name = name_or_zero (seat seats d); pending = pending_at pending d; locks = (ap (locks_at new) is ∙ kept ∙ ap (λ (n : ℕ). left set (locks_at store n)) (sym is)) i })
        ∙ sym (by_giver d (ap (λ (n : ℕ). eqb (row_at seats pending store n).name giver.0) is ∙ own_name seats pending order store seated sound from giver gives))
    | inr apart ↦
        let not_giver = other_name seats pending order store seated sound from d giver gives there (eqb-false d from apart) in
        elim (cases_Bool (eqb d to)) [
          | inl here ↦
              let is = eqb-true d to here in
              (λ i. record { name = name_or_zero (seat seats d); pending = pending_at pending d; locks = (ap (locks_at new) is ∙ came ∙ ap (λ (n : ℕ). with_moved (filter (moved set) (locks_at store from)) (locks_at store n)) (sym is)) i })
              ∙ sym (by_taker d not_giver (ap (λ (n : ℕ). eqb (row_at seats pending store n).name taker.0) is ∙ own_name seats pending order store seated sound to taker takes))
          | inr other ↦
              (λ i. record { name = name_or_zero (seat seats d); pending = pending_at pending d; locks = others d (eqb-false d from apart) (eqb-false d to other) i })
              ∙ sym (by_neither d not_giver (other_name seats pending order store seated sound to d taker takes there (eqb-false d to other)))
        ]
  ] where
    by_giver : (d : ℕ) → eqb (row_at seats pending store d).name giver.0 ≡ true → handed_row giver.0 taker.0 set (filter (moved set) (locks_at store from)) (row_at seats pending store d) ≡ record (row_at seats pending store d) { locks = left set (locks_at store d) }
    by_giver d e = ap (λ (b : Bool). cond b (record (row_at seats pending store d) { locks = left set (locks_at store d) })
        (cond (eqb (row_at seats pending store d).name taker.0) (record (row_at seats pending store d) { locks = with_moved (filter (moved set) (locks_at store from)) (locks_at store d) }) (row_at seats pending store d))) e

    by_taker : (d : ℕ) → eqb (row_at seats pending store d).name giver.0 ≡ false → eqb (row_at seats pending store d).name taker.0 ≡ true
        → handed_row giver.0 taker.0 set (filter (moved set) (locks_at store from)) (row_at seats pending store d) ≡ record (row_at seats pending store d) { locks = with_moved (filter (moved set) (locks_at store from)) (locks_at store d) }
    by_taker d e f = λ i. cond (e i) (record (row_at seats pending store d) { locks = left set (locks_at store d) })
        (cond (f i) (record (row_at seats pending store d) { locks = with_moved (filter (moved set) (locks_at store from)) (locks_at store d) }) (row_at seats pending store d))

    by_neither : (d : ℕ) → eqb (row_at seats pending store d).name giver.0 ≡ false → eqb (row_at seats pending store d).name taker.0 ≡ false
        → handed_row giver.0 taker.0 set (filter (moved set) (locks_at store from)) (row_at seats pending store d) ≡ row_at seats pending store d
    by_neither d e f = λ i. cond (e i) (record (row_at seats pending store d) { locks = left set (locks_at store d) })
        (cond (f i) (record (row_at seats pending store d) { locks = with_moved (filter (moved set) (locks_at store from)) (locks_at store d) }) (row_at seats pending store d))

  pub hands_over : rows_of seats pending order new ≡ hand_over_in giver.0 taker.0 set (rows_of seats pending order store)
  unfolding hand_over_in
  hands_over =
      rows_change seats pending pending order store new (handed_row giver.0 taker.0 set (filter (moved set) (locks_at store from))) handed_at
      ∙ ap (λ (l : List Lock). map (handed_row giver.0 taker.0 set (filter (moved set) l)) (rows_of seats pending order store)) (sym (locks_of_enrolled seats pending order store seated sound from giver gives home))
      ∙ sym (ap (λ (b : Bool). cond b (rows_of seats pending order store) (map (handed_row giver.0 taker.0 set (filter (moved set) (locks_of (rows_of seats pending order store) giver.0))) (rows_of seats pending order store))) differ)
