-- Exactly those who are live are enrolled for locks and have seats, after each change of the tables.
use Rattle.std.proofs.Common.{◌≡◌, ℕ, Bool, true, false, cond, eqb, ◌&&◌, ◌||◌, List, [], ◌∷◌, filter, map, refl, sym, ◌∙◌, ap, subst, arith, Some, None}
use Rattle.std.specs.Prelude.{Option, find, is_some}
use Rattle.std.proofs.lemmas.Bool.{eqb-true, eq-eqb, false≢true}
use Rattle.asset_names.specs.declared.names.Txn.{Txn}
use Rattle.asset_names.specs.declared.names.Ob.{Ob}
use Rattle.asset_names.specs.declared.operations.Op.{Op}
use Rattle.asset_names.specs.declared.statuses.Status.{Status}
use Rattle.asset_names.specs.declared.statuses.Status.TheVariants as Status'
use Rattle.asset_names.specs.Arrows.{lists}
use Rattle.asset_names.specs.Endings.{is_live_status}
use Rattle.asset_names.specs.Answers.{is_unknown}
use Rattle.asset_names.proofs.Common.{none_of}
use Rattle.asset_names.proofs.ListLemmas.{lists_pushed}
use Rattle.asset_seats.specs.declared.sitter.Sitter.{Sitter}
use Rattle.asset_seats.specs.Seated.{Seated, seat, HasSeat}
use Rattle.asset_deps.proofs.TableLemmas.{sits_still}
use Rattle.asset_locks.specs.LockTable as Locks
use Rattle.asset_locks.specs.Valid.{after_ask}
use Rattle.asset_trans.specs.TransRows.{NamedTransRow, row_in, status_in, status_or_unknown, seat_in, seat_or_zero, initiate_in, set_in}
use Rattle.asset_trans.specs.declared.row.TransRow.{TransRow}
use Rattle.asset_ends.specs.Standing.{AreEnrolled, LiveAreSeated}
use Rattle.asset_ends.proofs.CellLemmas.{is_name}
use Rattle.asset_ends.proofs.LockLaws.{names_enrolled, names_granted, names_waiting}
use Rattle.asset_ends.proofs.TransLaws.{status_initiate_in, seat_initiate_in, seat_set}
use Rattle.asset_ends.proofs.ShowsLemmas.{set_alone}

-- what is listed of the names that pass
pub lists_filter : (p : ℕ → Bool) (names : List ℕ) (t : ℕ) → lists (filter p names) t ≡ (p t && lists names t)
unfolding lists
lists_filter p [] t = grind arith
lists_filter p (n ∷ names) t = go (p n) refl (eqb n t) refl (lists_filter p names t) where
  go : (kept : Bool) → p n ≡ kept → (here : Bool) → eqb n t ≡ here → lists (filter p names) t ≡ (p t && lists names t)
      → lists (cond kept (n ∷ filter p names) (filter p names)) t ≡ (p t && (here || lists names t))
  go true k true h ih = rw (h, ← eqb-true n t h, k) refl
  go true k false h ih = rw (h, ih) refl
  go false k true h ih = rw (ih, ← eqb-true n t h, k) refl
  go false k false h ih = ih

-- who is named is enrolled
pub enrolled_named : (everyone : List Locks.Enrolled) (t : ℕ) → is_some (find (λ (who : Locks.Enrolled). eqb who.name t) everyone) ≡ lists (map (λ (who : Locks.Enrolled). who.name) everyone) t
unfolding lists
enrolled_named [] t = refl
enrolled_named (who ∷ everyone) t = go (eqb who.name t) (enrolled_named everyone t) where
  go : (here : Bool) → is_some (find (λ (h : Locks.Enrolled). eqb h.name t) everyone) ≡ lists (map (λ (h : Locks.Enrolled). h.name) everyone) t
      → is_some (cond here (Some who) (find (λ (h : Locks.Enrolled). eqb h.name t) everyone)) ≡ (here || lists (map (λ (h : Locks.Enrolled). h.name) everyone) t)
  go true ih = refl
  go false ih = ih

-- who is live is enrolled
pub live_enrolled : (rows : List NamedTransRow) (table : Locks.LockTable) (t : ℕ) → AreEnrolled rows table → is_live_status (status_in rows t) ≡ true → is_some (Locks.enrolled_in table t) ≡ true
unfolding AreEnrolled Locks.enrolled_in Locks.names_in
live_enrolled rows table t enrolled live = enrolled_named table t ∙ enrolled t ∙ live

pub running_enrolled : (rows : List NamedTransRow) (table : Locks.LockTable) (t : ℕ) → AreEnrolled rows table → status_in rows t ≡ Status'.Running → is_some (Locks.enrolled_in table t) ≡ true
unfolding is_live_status
running_enrolled rows table t enrolled runs = live_enrolled rows table t enrolled (ap is_live_status runs)

-- who is unknown is not enrolled
pub new_not_enrolled : (rows : List NamedTransRow) (table : Locks.LockTable) (t : ℕ) → AreEnrolled rows table → status_in rows t ≡ Status'.Unknown → Locks.enrolled_in table t ≡ None
unfolding AreEnrolled Locks.enrolled_in Locks.names_in is_live_status
new_not_enrolled rows table t enrolled unknown =
    none_of _ (enrolled_named table t ∙ enrolled t ∙ ap is_live_status unknown)

-- nobody is there at first
pub nobody_enrolled : (rows : List NamedTransRow) (table : Locks.LockTable) → rows ≡ [] → table ≡ [] → AreEnrolled rows table
unfolding AreEnrolled Locks.names_in status_in row_in status_or_unknown is_live_status lists
nobody_enrolled rows table r t = rw (r, t) (λ n. refl)

-- after an initiate
pub initiate_enrolled : (rows : List NamedTransRow) (table : Locks.LockTable) (t : Txn) (parent : Option Txn) (s : ℕ) → row_in rows t.0 ≡ None → AreEnrolled rows table → AreEnrolled (initiate_in rows t parent s) (Locks.enrol_in t.0 table)
unfolding AreEnrolled is_live_status
initiate_enrolled rows table t parent s none enrolled = λ n.
    ap (λ names. lists names n) (names_enrolled t.0 table) ∙ lists_pushed (Locks.names_in table) t.0 n ∙ go n (eqb t.0 n) (enrolled n) ∙ ap is_live_status (sym (status_initiate_in rows t parent s n none)) where
      go : (n : ℕ) (own : Bool) → lists (Locks.names_in table) n ≡ is_live_status (status_in rows n) → (lists (Locks.names_in table) n || own) ≡ is_live_status (cond own Status'.Initiated (status_in rows n))
      go n true same = grind arith
      go n false same = grind (arith, same)

-- after a change of status from one that is live to another
pub changed_enrolled : (rows : List NamedTransRow) (table : Locks.LockTable) (t : ℕ) (after : Status) → is_unknown (status_in rows t) ≡ false → is_live_status (status_in rows t) ≡ is_live_status after → AreEnrolled rows table → AreEnrolled (set_in (is_name t) after rows) table
unfolding AreEnrolled
changed_enrolled rows table t after known same enrolled = λ n. enrolled n ∙ go n (eqb t n) refl ∙ ap is_live_status (sym (set_alone rows t after known n)) where
  go : (n : ℕ) (own : Bool) → eqb t n ≡ own → is_live_status (status_in rows n) ≡ is_live_status (cond own after (status_in rows n))
  go n true e = subst (λ m. is_live_status (status_in rows m) ≡ is_live_status after) (eqb-true t n e) same
  go n false e = refl

-- after a request
pub asked_enrolled : (rows : List NamedTransRow) (table : Locks.LockTable) (free : Bool) (t : ℕ) (x : Ob) (op : Op) → AreEnrolled rows table → AreEnrolled rows (after_ask free t x op table)
unfolding AreEnrolled after_ask
asked_enrolled rows table true t x op enrolled = λ n. ap (λ names. lists names n) (names_granted t x op table) ∙ enrolled n
asked_enrolled rows table false t x op enrolled = λ n. ap (λ names. lists names n) (names_waiting t x op table) ∙ enrolled n

-- of a live status
pub live_known : (status : Status) → is_live_status status ≡ true → is_unknown status ≡ false
unfolding is_live_status is_unknown
live_known Status'.Unknown h = sym h
live_known Status'.Initiated h = refl
live_known Status'.Running h = refl
live_known Status'.Completed h = refl
live_known Status'.Committed h = refl
live_known Status'.Aborted h = refl

-- ---- exactly those who are live have seats

pub nobody_seated : (rows : List NamedTransRow) (seats : Seated) → rows ≡ [] → ((c : ℕ) → seat seats c ≡ None) → LiveAreSeated rows seats
unfolding status_in row_in status_or_unknown is_live_status
nobody_seated rows seats none free = record {
  seated = λ t live. absurd (false≢true (ap (λ (r : List NamedTransRow). is_live_status (status_in r t.0)) (sym none) ∙ live));
  live = λ c t sat. cc (sym (free c) ∙ sat);
}

-- after an initiate, whose transaction sits on a seat that was free
pub initiate_seated : (rows : List NamedTransRow) (seats later : Seated) (t : Txn) (parent : Option Txn) (s : ℕ) → row_in rows t.0 ≡ None → seat seats s ≡ None → ((c : ℕ) → seat later c ≡ cond (eqb c s) (Some t) (seat seats c))
    → LiveAreSeated rows seats → LiveAreSeated (initiate_in rows t parent s) later
unfolding is_live_status
initiate_seated rows seats later t parent s none free sits before = record {
  seated = λ u live. ap (seat later) (seat_initiate_in rows t parent s u.0 none) ∙ sitting u (eqb t.0 u.0) refl (ap is_live_status (sym (status_initiate_in rows t parent s u.0 none)) ∙ live);
  live = λ c u sat. ap is_live_status (status_initiate_in rows t parent s u.0 none) ∙ lives u (eqb t.0 u.0) refl (λ apart. there c u apart sat);
} where
  own : seat later s ≡ Some t
  own = sits s ∙ ap (λ b. cond b (Some t) (seat seats s)) (eq-eqb s s refl)

  sitting : (u : Txn) (same : Bool) → eqb t.0 u.0 ≡ same → is_live_status (cond same Status'.Initiated (status_in rows u.0)) ≡ true → seat later (cond same s (seat_in rows u.0)) ≡ Some u
  sitting u true e live = own ∙ (λ i. Some (record { 0 = eqb-true t.0 u.0 e i }))
  sitting u false e live = sits_still s t seats later free sits (seat_in rows u.0) u (before.seated u live)

  there : (c : ℕ) (u : Txn) → eqb t.0 u.0 ≡ false → seat later c ≡ Some u → is_live_status (status_in rows u.0) ≡ true
  there c u apart sat = go (eqb c s) refl where
    go : (b : Bool) → eqb c s ≡ b → is_live_status (status_in rows u.0) ≡ true
    go true e =
        let is : Some t ≡ Some u = sym (sits c ∙ ap (λ b. cond b (Some t) (seat seats c)) e) ∙ sat in
        let one : t ≡ u = cc is in
        absurd (false≢true (sym apart ∙ eq-eqb t.0 u.0 (ap (λ (v : Txn). v.0) one)))
    go false e = before.live c u (sym (sits c ∙ ap (λ b. cond b (Some t) (seat seats c)) e) ∙ sat)

  lives : (u : Txn) (same : Bool) → eqb t.0 u.0 ≡ same → (eqb t.0 u.0 ≡ false → is_live_status (status_in rows u.0) ≡ true) → is_live_status (cond same Status'.Initiated (status_in rows u.0)) ≡ true
  lives u true e there = refl
  lives u false e there = there e

-- after a change of status from one that is live to another
pub changed_seated : (rows : List NamedTransRow) (seats : Seated) (t : ℕ) (after : Status) → is_live_status (status_in rows t) ≡ true → is_live_status after ≡ true → LiveAreSeated rows seats → LiveAreSeated (set_in (is_name t) after rows) seats
changed_seated rows seats t after was now before = record {
  seated = λ u live. ap (seat seats) (seat_set (is_name t) after rows u.0) ∙ before.seated u (back u.0 (eqb t u.0) refl (ap is_live_status (sym (set_alone rows t after known u.0)) ∙ live));
  live = λ c u sat. ap is_live_status (set_alone rows t after known u.0) ∙ forth u.0 (eqb t u.0) (before.live c u sat);
} where
  known : is_unknown (status_in rows t) ≡ false
  known = live_known (status_in rows t) was

  back : (n : ℕ) (own : Bool) → eqb t n ≡ own → is_live_status (cond own after (status_in rows n)) ≡ true → is_live_status (status_in rows n) ≡ true
  back n true e live = subst (λ m. is_live_status (status_in rows m) ≡ true) (eqb-true t n e) was
  back n false e live = live

  forth : (n : ℕ) (own : Bool) → is_live_status (status_in rows n) ≡ true → is_live_status (cond own after (status_in rows n)) ≡ true
  forth n true live = now
  forth n false live = live

-- where the seats stay
pub same_seated : (rows : List NamedTransRow) (seats later : Seated) → ((c : ℕ) → seat later c ≡ seat seats c) → LiveAreSeated rows seats → LiveAreSeated rows later
same_seated rows seats later same before = record { seated = λ t live. same (seat_in rows t.0) ∙ before.seated t live; live = λ c t sat. before.live c t (sym (same c) ∙ sat) }

-- who is not live has no seat
pub not_seated : (rows : List NamedTransRow) (seats : Seated) (t : Txn) → LiveAreSeated rows seats → is_live_status (status_in rows t.0) ≡ false → (c : ℕ) → seat seats c ≡ Some t → ⊥
not_seated rows seats t seated ended c sat = false≢true (sym ended ∙ seated.live c t sat)

pub new_not_seated : (rows : List NamedTransRow) (seats later : Seated) (t : Txn) → LiveAreSeated rows seats → ((c : ℕ) → seat later c ≡ seat seats c) → status_in rows t.0 ≡ Status'.Unknown → (c : ℕ) → seat later c ≡ Some t → ⊥
unfolding is_live_status
new_not_seated rows seats later t seated same unknown c sat = not_seated rows seats t seated (ap is_live_status unknown) c (sym (same c) ∙ sat)

-- what a row says
pub status_of_row : (rows : List NamedTransRow) (t : ℕ) (found : Option TransRow) → found ≡ row_in rows t → status_or_unknown found ≡ status_in rows t
unfolding status_in
status_of_row rows t found is = ap status_or_unknown is

pub seat_of_row : (rows : List NamedTransRow) (t : ℕ) (found : Option TransRow) → found ≡ row_in rows t → seat_or_zero found ≡ seat_in rows t
unfolding seat_in
seat_of_row rows t found is = ap seat_or_zero is

-- who is live has the seat that its row says
pub live_sits : (rows : List NamedTransRow) (seats : Seated) (one : Sitter) → LiveAreSeated rows seats → one.at ≡ seat_in rows one.t.0 → is_live_status (status_in rows one.t.0) ≡ true → HasSeat seats one
live_sits rows seats one seated there live = ap (seat seats) there ∙ seated.seated one.t live
