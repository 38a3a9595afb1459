-- Some end, and then others: it is as if all had ended at once. So it does not matter in which order they end.
use Rattle.std.proofs.Common.{◌≡◌, ℕ, Bool, true, false, cond, not, ◌&&◌, ◌||◌, List, [], ◌∷◌, filter, refl, sym, ◌∙◌, ap, subst, None, Some}
use Rattle.std.specs.Prelude.{ℤ, Option, option_map}
use Rattle.asset_names.specs.declared.names.Txn.{Txn}
use Rattle.asset_names.specs.declared.statuses.End.{End}
use Rattle.asset_names.specs.declared.statuses.End.TheVariants as End'
use Rattle.asset_names.specs.declared.statuses.Status.{Status}
use Rattle.asset_objects.specs.Placed.{objects_in}
use Rattle.asset_objects.specs.Cells.{Effect, Update, Cell, Cells, cells, wrote, added, updated, lasting, placed, placed_anew, ended_over, ended, change_each}
use Rattle.asset_objects.proofs.UpdateLemmas.{ended_updated, ended_fresh, ended_lasting}
use Rattle.asset_seats.specs.Seated.{seat}
use Rattle.asset_locks.specs.LockTable as Locks
use Rattle.asset_trans.specs.TransRows.{NamedTransRow, set_entry, set_in, ended_as}
use Rattle.asset_ends.specs.declared.parts.Parts.{Parts}
use Rattle.asset_ends.specs.Ended.{AreEnded, locks_of, unless_gone}

-- who passes one of two tests
unfoldable pub either : (ℕ → Bool) → (ℕ → Bool) → ℕ → Bool
either p q n = p n || q n

-- nobody
unfoldable pub nobody : ℕ → Bool
nobody n = false

-- what is kept of what is kept
kept_twice : {A : Type 0} (p q : A → Bool) (xs : List A) → filter (λ x. not (q x)) (filter (λ x. not (p x)) xs) ≡ filter (λ x. not (p x || q x)) xs
kept_twice p q [] = refl
kept_twice p q (x ∷ xs) = go (p x) refl (q x) refl (kept_twice p q xs) where
  go : (first : Bool) → p x ≡ first → (second : Bool) → q x ≡ second → filter (λ y. not (q y)) (filter (λ y. not (p y)) xs) ≡ filter (λ y. not (p y || q y)) xs
      → filter (λ y. not (q y)) (cond (not first) (x ∷ filter (λ y. not (p y)) xs) (filter (λ y. not (p y)) xs)) ≡ cond (not (first || second)) (x ∷ filter (λ y. not (p y || q y)) xs) (filter (λ y. not (p y || q y)) xs)
  go true e second f ih = ih
  go false e true f ih = rw f ih
  go false e false f ih = rw f (ap (λ ys. x ∷ ys) ih)

kept_all : {A : Type 0} (xs : List A) → filter (λ x. not false) xs ≡ xs
kept_all [] = refl
kept_all (x ∷ xs) = ap (λ ys. x ∷ ys) (kept_all xs)

-- ---- rows
rows_twice : (p q : ℕ → Bool) (status : Status) (rows : List NamedTransRow) → set_in q status (set_in p status rows) ≡ set_in (either p q) status rows
unfolding set_in set_entry either
rows_twice p q status [] = refl
rows_twice p q status (entry ∷ rows) = λ i. go (p entry.0.0) refl (q entry.0.0) refl i ∷ rows_twice p q status rows i where
  go : (first : Bool) → p entry.0.0 ≡ first → (second : Bool) → q entry.0.0 ≡ second
      → set_entry q status (set_entry p status entry) ≡ set_entry (either p q) status entry
  go true e true f = rw (e, f) refl
  go true e false f = rw (e, f) refl
  go false e true f = rw (e, f) refl
  go false e false f = rw (e, f) refl

rows_none : (status : Status) (rows : List NamedTransRow) → set_in nobody status rows ≡ rows
unfolding set_in set_entry nobody
rows_none status [] = refl
rows_none status (entry ∷ rows) = ap (λ rest. entry ∷ rest) (rows_none status rows)

-- ---- objects
anew_twice : (how : End) (p q : ℕ → Bool) (owner : Option ℕ) (effect : Effect) (cell both : Cell) → ended how q cell ≡ both → ended how q (placed_anew how p owner effect cell) ≡ placed_anew how (either p q) owner effect both
unfolding placed_anew placed either
anew_twice how p q None (wrote v) cell both same = ended_fresh how q v
anew_twice how p q None (added d) cell both same = ended_lasting how q d cell ∙ ap (lasting d) same
anew_twice how p q (Some n) effect cell both same = go (p n) how refl effect where
  live : (effect : Effect) → ended how q (updated (Some n) effect cell) ≡ placed (cond (q n) (Some how) None) n effect both
  live effect = ended_updated how q (Some n) effect cell ∙ ap (placed (cond (q n) (Some how) None) n effect) same

  go : (gone : Bool) (end : End) → end ≡ how → (effect : Effect) → ended how q (placed (cond gone (Some end) None) n effect cell) ≡ placed (cond (gone || q n) (Some end) None) n effect both
  go true End'.Committed e (wrote v) = ended_fresh how q v
  go true End'.Committed e (added d) = ended_lasting how q d cell ∙ ap (lasting d) same
  go true End'.Aborted e effect = same
  go false end e effect = live effect ∙ ap (λ (h : End). placed (cond (q n) (Some h) None) n effect both) (sym e)

ended_again : (how : End) (p q : ℕ → Bool) (base : ℤ) (records : List Update) → ended how q (ended_over how p base records) ≡ ended_over how (either p q) base records
unfolding ended_over
ended_again how p q base [] = ended_fresh how q base
ended_again how p q base (first ∷ older) = anew_twice how p q first.owner first.effect (ended_over how p base older) (ended_over how (either p q) base older) (ended_again how p q base older)

cell_twice : (how : End) (p q : ℕ → Bool) (cell : Cell) → ended how q (ended how p cell) ≡ ended how (either p q) cell
unfolding ended
cell_twice how p q cell = ended_again how p q cell.base cell.records

objects_twice : (how : End) (p q : ℕ → Bool) (objects : Cells) → change_each (ended how q) (change_each (ended how p) objects) ≡ change_each (ended how (either p q)) objects
unfolding change_each
objects_twice how p q objects = λ i x. go (objects x) i where
  go : (cell : Option Cell) → option_map (ended how q) (option_map (ended how p) cell) ≡ option_map (ended how (either p q)) cell
  go None = refl
  go (Some cell) = ap Some (cell_twice how p q cell)

-- ---- locks
locks_twice : (p q : ℕ → Bool) (table : Locks.LockTable) → Locks.release_in q (Locks.release_in p table) ≡ Locks.release_in (either p q) table
unfolding Locks.release_in either
locks_twice p q table = kept_twice (λ (who : Locks.Enrolled). p who.name) (λ (who : Locks.Enrolled). q who.name) table

locks_none : (table : Locks.LockTable) → Locks.release_in nobody table ≡ table
unfolding Locks.release_in nobody
locks_none table = kept_all table

-- what is left after two is what is left after both
both_gone : (stood : Bool) (pu qu pv qv : Bool) → ((stood && not pu && not pv) && not qu && not qv) ≡ (stood && not (pu || qu) && not (pv || qv))
both_gone false pu qu pv qv = refl
both_gone true true qu pv qv = refl
both_gone true false true true qv = refl
both_gone true false true false qv = refl
both_gone true false false true qv = refl
both_gone true false false false qv = refl

one_gone : (stood p q : Bool) → ((stood && not p) && not q) ≡ (stood && not (p || q))
one_gone true true q = refl
one_gone true false q = refl
one_gone false p q = refl

one_kept : (stood : Bool) → stood ≡ (stood && not false)
one_kept true = refl
one_kept false = refl

-- who has left one seat or another
gone_twice : (p q : ℕ → Bool) (who : Option Txn) → unless_gone q (unless_gone p who) ≡ unless_gone (either p q) who
unfolding unless_gone either
gone_twice p q None = refl
gone_twice p q (Some t) = go (p t.0) where
  go : (first : Bool) → unless_gone q (cond first None (Some t)) ≡ cond (first || q t.0) None (Some t)
  go true = refl
  go false = refl

gone_none : (who : Option Txn) → who ≡ unless_gone nobody who
unfolding unless_gone nobody
gone_none None = refl
gone_none (Some t) = refl

both_kept : (stood : Bool) → stood ≡ (stood && not false && not false)
both_kept true = refl
both_kept false = refl

-- ---- together

-- some have ended, and then others
pub ended_twice : (p q : ℕ → Bool) (how : End) (before now later : Parts) → AreEnded p how before now → AreEnded q how now later → AreEnded (either p q) how before later
unfolding either
ended_twice p q how before now later first second = record {
  rows = second.rows ∙ ap (set_in q (ended_as how)) first.rows ∙ rows_twice p q (ended_as how) before.trans;
  objects = second.objects ∙ ap (change_each (ended how q)) first.objects ∙ objects_twice how p q (cells (objects_in before.objects));
  locks = second.locks ∙ ap (Locks.release_in q) first.locks ∙ locks_twice p q (locks_of before);
  permits = λ u n x op. second.permits u n x op ∙ rw (first.permits u n x op) (both_gone _ (p u) (q u) (p n) (q n));
  openers = λ u x op. second.openers u x op ∙ rw (first.openers u x op) (one_gone _ (p u) (q u));
  deps = λ k u v. second.deps k u v ∙ rw (first.deps k u v) (both_gone _ (p u) (q u) (p v) (q v));
  seats = λ c. second.seats c ∙ ap (unless_gone q) (first.seats c) ∙ gone_twice p q (seat before.seats c);
}

-- nobody has ended
pub ended_none : (how : End) (now : Parts) → change_each (ended how nobody) (cells (objects_in now.objects)) ≡ cells (objects_in now.objects) → AreEnded nobody how now now
unfolding nobody
ended_none how now same = record {
  rows = sym (rows_none (ended_as how) now.trans);
  objects = sym same;
  locks = sym (locks_none (locks_of now));
  permits = λ u n x op. both_kept _;
  openers = λ u x op. one_kept _;
  deps = λ k u v. both_kept _;
  seats = λ c. gone_none (seat now.seats c);
}

-- the same have ended, said by another test
pub ended_as_test : (p q : ℕ → Bool) (how : End) (before later : Parts) → ((n : ℕ) → p n ≡ q n) → AreEnded p how before later → AreEnded q how before later
ended_as_test p q how before later same ended = subst (λ (test : ℕ → Bool). AreEnded test how before later) (λ i. λ n. same n i) ended
