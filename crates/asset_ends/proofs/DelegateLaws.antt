-- What a delegation makes of cells, locks and permits, and that the tables show it.
use Rattle.std.proofs.Common.{◌≡◌, ℕ, Bool, true, false, cond, not, eqb, ◌&&◌, ◌||◌, List, [], ◌∷◌, map, filter, refl, sym, ◌∙◌, ap, subst, arith, Some, None}
use Rattle.std.specs.Prelude.{ℤ, Option, find, is_some, option_map}
use Rattle.std.specs.List.{list_any}
use Rattle.std.proofs.lemmas.Bool.{eqb-true, eq-eqb, true≢false}
use Rattle.asset_names.proofs.ListLemmas.{any_map, any_filter, any_alike, all_and}
use Rattle.asset_names.specs.declared.names.Txn.{Txn}
use Rattle.asset_names.specs.declared.names.Ob.{Ob}
use Rattle.asset_names.specs.declared.operations.Op.{Op}
use Rattle.asset_names.specs.declared.operations.Op.TheVariants as Op'
use Rattle.asset_names.specs.declared.sets.ObSet.{ObSet}
use Rattle.asset_names.specs.declared.statuses.End.{End}
use Rattle.asset_names.specs.declared.statuses.End.TheVariants as End'
use Rattle.asset_names.specs.declared.steps.Step.{Step}
use Rattle.asset_names.specs.declared.steps.Step.TheVariants.{Delegate}
use Rattle.asset_names.specs.Arrows.{lists, has_arrow}
use Rattle.asset_names.specs.Sets.{numbers}
use Rattle.asset_names.specs.InSet.{in_set}
use Rattle.asset_names.specs.OpSets.{has_op}
use Rattle.asset_names.specs.Steps.{Opening, initiated, initiated_by, begun, begun_by, completed, completed_by, parent_of, parent_by}
use Rattle.asset_names.specs.Endings.{dependencies, dependency_by, live, end_of}
use Rattle.asset_names.specs.Operations.{Use, Operation, operations, operated, opening_at, handed_over, holds, holds_object, permits}
use Rattle.asset_names.specs.Operations.Use.{reads, writes, adds}
use Rattle.asset_names.proofs.Common.{eqb-flip}
use Rattle.asset_names.proofs.EndLemmas.{live_parts}
use Rattle.asset_names.proofs.DelegateLemmas.{arrows_delegated, live_delegated, delegate_ends, holds_delegated, holds_by_some_op}
use Rattle.asset_objects.specs.Cells.{Effect, Cell, Cells, wrote, added, fresh, updated, placed, handed_cell, handed_update, change_where}
use Rattle.asset_objects.proofs.UpdateLemmas.{handed_lasting}
use Rattle.asset_lock_store.specs.declared.lock.Lock.{Lock}
use Rattle.asset_lock_store.specs.LockRules as Rules
use Rattle.asset_lock_store.specs.LockRules.{is_some_op}
use Rattle.asset_locks.specs.LockTable as Locks
use Rattle.asset_locks.specs.Valid.{IsValid}
use Rattle.asset_locks.proofs.HandLaws.{carries_handed, carries_own, names_handed}
use Rattle.asset_deps.specs.Dependencies.{Dependency}
use Rattle.asset_permits.specs.Descriptors.{Descriptor, one_covers, opens}
use Rattle.asset_trans.specs.TransRows.{NamedTransRow}
use Rattle.asset_ends.specs.Shows.{Shows, used, cell_after, cell_of, permitted, table_values}
use Rattle.asset_ends.proofs.CellLemmas.{cell_same}
use Rattle.asset_ends.proofs.DependLaws.{depended_quiet}
use Rattle.asset_ends.proofs.HistoryLemmas.{enrolled_quiet}
use Rattle.asset_ends.proofs.OpenerLaws.{opener_delegate}
use Rattle.asset_ends.proofs.ShowsLemmas.{status_quiet}

-- ---- cells

-- one more update over a cell whose updates are handed over, of one who is not the giver
other_placed : (giver taker owner : ℕ) (effect : Effect) (end : Option End) (cell : Cell) → eqb owner giver ≡ false → placed end owner effect (handed_cell giver taker cell) ≡ handed_cell giver taker (placed end owner effect cell)
unfolding placed updated fresh handed_cell handed_update
other_placed giver taker owner effect None cell other = rw other refl
other_placed giver taker owner effect (Some End'.Aborted) cell other = refl
other_placed giver taker owner (wrote v) (Some End'.Committed) cell other = refl
other_placed giver taker owner (added d) (Some End'.Committed) cell other = handed_lasting giver taker d cell

-- and of the giver, which is the taker's then
giver_placed : (giver taker : ℕ) (effect : Effect) (cell : Cell) → placed None taker effect (handed_cell giver taker cell) ≡ handed_cell giver taker (placed None giver effect cell)
unfolding placed updated handed_cell handed_update
giver_placed giver taker effect cell = rw (eq-eqb giver giver refl) refl

-- one more operation over a cell whose updates are handed over, of one who is not the giver
other_used : (giver taker owner : ℕ) (act : Use) (end : Option End) (cell : Cell) → eqb owner giver ≡ false → used end owner act (handed_cell giver taker cell) ≡ handed_cell giver taker (used end owner act cell)
unfolding used
other_used giver taker owner reads end cell other = refl
other_used giver taker owner (writes v) end cell other = other_placed giver taker owner (wrote v) end cell other
other_used giver taker owner (adds d) end cell other = other_placed giver taker owner (added d) end cell other

-- and of the giver, which is the taker's then
giver_used : (giver taker : ℕ) (act : Use) (cell : Cell) → used None taker act (handed_cell giver taker cell) ≡ handed_cell giver taker (used None giver act cell)
unfolding used
giver_used giver taker reads cell = refl
giver_used giver taker (writes v) cell = giver_placed giver taker (wrote v) cell
giver_used giver taker (adds d) cell = giver_placed giver taker (added d) cell

-- the cell after one more operation, over that of the older ones
add_used : (ℕ → Option End) → ℕ → Cell → Operation → Cell
add_used ends x before o = cond (eqb o.object x) (used (ends o.owner) o.owner o.use_of before) before

-- where the object is not in the set, the operations on it stay as they are
one_stays : (giver taker : ℕ) (obs : ObSet) (ends : ℕ → Option End) (x : ℕ) (before : Cell) (o : Operation) → in_set obs x ≡ false → add_used ends x before (handed_over giver taker obs o) ≡ add_used ends x before o
unfolding handed_over add_used
one_stays giver taker obs ends x before o out = go (eqb o.owner giver) (in_set obs o.object) refl where
  go : (own set : Bool) → in_set obs o.object ≡ set → add_used ends x before (cond (own && set) (record o { owner = taker }) o) ≡ add_used ends x before o
  go true true s = elsewhere (eqb o.object x) refl where
    elsewhere : (here : Bool) → eqb o.object x ≡ here → cond here (used (ends taker) taker o.use_of before) before ≡ cond here (used (ends o.owner) o.owner o.use_of before) before
    elsewhere true f = absurd (true≢false (sym s ∙ ap (in_set obs) (eqb-true o.object x f) ∙ out))
    elsewhere false f = refl
  go true false s = refl
  go false set s = refl

-- where it is, the giver's are the taker's
one_moves : (giver taker : ℕ) (obs : ObSet) (ends : ℕ → Option End) → ends giver ≡ None → ends taker ≡ None → (x : ℕ) (before : Cell) (o : Operation) → in_set obs x ≡ true
    → add_used ends x (handed_cell giver taker before) (handed_over giver taker obs o) ≡ handed_cell giver taker (add_used ends x before o)
unfolding handed_over add_used
one_moves giver taker obs ends gives takes x before o among = go (eqb o.object x) refl where
  moved : Bool → Operation
  moved own = cond own (record o { owner = taker }) o

  kept : (m : Bool) → (moved m).object ≡ o.object
  kept true = refl
  kept false = refl

  on : (own : Bool) → eqb o.owner giver ≡ own → used (ends (moved own).owner) (moved own).owner (moved own).use_of (handed_cell giver taker before) ≡ handed_cell giver taker (used (ends o.owner) o.owner o.use_of before)
  on true e = rw (takes, eqb-true o.owner giver e, gives) (giver_used giver taker o.use_of before)
  on false e = other_used giver taker o.owner o.use_of (ends o.owner) before e

  go : (here : Bool) → eqb o.object x ≡ here
      → cond (eqb (moved (eqb o.owner giver && in_set obs o.object)).object x) (used (ends (moved (eqb o.owner giver && in_set obs o.object)).owner) (moved (eqb o.owner giver && in_set obs o.object)).owner (moved (eqb o.owner giver && in_set obs o.object)).use_of (handed_cell giver taker before)) (handed_cell giver taker before)
      ≡ handed_cell giver taker (cond here (used (ends o.owner) o.owner o.use_of before) before)
  go false f = rw (kept (eqb o.owner giver && in_set obs o.object), f) refl
  go true f =
      let listed : in_set obs o.object ≡ true = ap (in_set obs) (eqb-true o.object x f) ∙ among in
      let own : (eqb o.owner giver && in_set obs o.object) ≡ eqb o.owner giver = rw listed (grind arith) in
      rw (own, kept (eqb o.owner giver), f) (on (eqb o.owner giver) refl)

-- the cell after the operations that were handed over: on an object of the set, the giver's writes are the taker's
cell_stays : (giver taker : ℕ) (obs : ObSet) (ends : ℕ → Option End) (x : ℕ) (first : ℤ) → in_set obs x ≡ false → (os : List Operation) → cell_after ends x first (map (handed_over giver taker obs) os) ≡ cell_after ends x first os
unfolding cell_after add_used
cell_stays giver taker obs ends x first out [] = refl
cell_stays giver taker obs ends x first out (o ∷ older) =
    ap (λ later. add_used ends x later (handed_over giver taker obs o)) (cell_stays giver taker obs ends x first out older) ∙ one_stays giver taker obs ends x (cell_after ends x first older) o out

cell_moves : (giver taker : ℕ) (obs : ObSet) (ends : ℕ → Option End) → ends giver ≡ None → ends taker ≡ None → (x : ℕ) (first : ℤ) → in_set obs x ≡ true → (os : List Operation)
    → cell_after ends x first (map (handed_over giver taker obs) os) ≡ handed_cell giver taker (cell_after ends x first os)
unfolding cell_after add_used fresh handed_cell
cell_moves giver taker obs ends gives takes x first among [] = refl
cell_moves giver taker obs ends gives takes x first among (o ∷ older) =
    ap (λ later. add_used ends x later (handed_over giver taker obs o)) (cell_moves giver taker obs ends gives takes x first among older) ∙ one_moves giver taker obs ends gives takes x (cell_after ends x first older) o among

-- the cell of an object after a delegation between live transactions
pub cell_delegate : (opening : Opening) (giver taker : Txn) (obs : ObSet) (steps : List Step) → live steps giver.0 ≡ true → live steps taker.0 ≡ true → (x : ℕ)
    → change_where (in_set obs) (handed_cell giver.0 taker.0) (cell_of opening steps) x ≡ cell_of opening (Delegate giver taker obs ∷ steps) x
unfolding cell_of operations operated change_where
cell_delegate opening giver taker obs steps gives takes x = go (opening_at opening x) (in_set obs x) refl where
  later : Option ℤ → Option Cell
  later first = option_map (λ v. cell_after (end_of (Delegate giver taker obs ∷ steps)) x v (map (handed_over giver.0 taker.0 obs) (operations steps))) first

  same_ends : (v : ℤ) → cell_after (end_of (Delegate giver taker obs ∷ steps)) x v (map (handed_over giver.0 taker.0 obs) (operations steps)) ≡ cell_after (end_of steps) x v (map (handed_over giver.0 taker.0 obs) (operations steps))
  same_ends v = cell_same (end_of steps) (end_of (Delegate giver taker obs ∷ steps)) (delegate_ends giver taker obs steps) x v (map (handed_over giver.0 taker.0 obs) (operations steps))

  go : (first : Option ℤ) (set : Bool) → in_set obs x ≡ set
      → cond set (option_map (handed_cell giver.0 taker.0) (option_map (λ v. cell_after (end_of steps) x v (operations steps)) first)) (option_map (λ v. cell_after (end_of steps) x v (operations steps)) first) ≡ later first
  go None true s = refl
  go None false s = refl
  go (Some v) true s = ap Some (sym (same_ends v ∙ cell_moves giver.0 taker.0 obs (end_of steps) (live_parts steps giver.0 gives).1 (live_parts steps taker.0 takes).1 x v s (operations steps)))
  go (Some v) false s = ap Some (sym (same_ends v ∙ cell_stays giver.0 taker.0 obs (end_of steps) x v s (operations steps)))

-- ---- locks

-- who carries what after a hand-over, which changes nothing where the giver is the taker
pub carries_given : (giver taker : ℕ) (set : ObSet) (table : Locks.LockTable) (u y : ℕ) (op : Op) → IsValid table → is_some (Locks.enrolled_in table taker) ≡ true
    → Locks.carries (Locks.hand_over_in giver taker set table) u y op ≡ cond (in_set set y) ((eqb u taker && Locks.carries table giver y op) || (not (eqb u giver) && Locks.carries table u y op)) (Locks.carries table u y op)
unfolding Locks.hand_over_in
carries_given giver taker set table u y op valid enrolled = go (eqb giver taker) refl where
  go : (same : Bool) → eqb giver taker ≡ same
      → Locks.carries (Locks.hand_over_in giver taker set table) u y op ≡ cond (in_set set y) ((eqb u taker && Locks.carries table giver y op) || (not (eqb u giver) && Locks.carries table u y op)) (Locks.carries table u y op)
  go false e = carries_handed giver taker set table u y op valid e enrolled
  go true e =
      ap (λ b. Locks.carries (cond b table (map (Locks.handed_row giver taker set (filter (Rules.moved set) (Locks.locks_of table giver))) table)) u y op) e
      ∙ by_name (in_set set y) (eqb u giver) refl
      ∙ ap (λ n. cond (in_set set y) ((eqb u n && Locks.carries table giver y op) || (not (eqb u giver) && Locks.carries table u y op)) (Locks.carries table u y op)) (eqb-true giver taker e) where
        by_name : (among own : Bool) → eqb u giver ≡ own → Locks.carries table u y op ≡ cond among ((own && Locks.carries table giver y op) || (not own && Locks.carries table u y op)) (Locks.carries table u y op)
        by_name false own f = refl
        by_name true true f = ap (λ n. Locks.carries table n y op) (eqb-true u giver f) ∙ grind arith
        by_name true false f = refl

-- a lock carries an operation, so a transaction has one on an object where it carries a read, a write or an add there
on_carries : (x : ℕ) (locks : List Lock) → ((lock : Lock) → find (Rules.is_on x) locks ≡ Some lock → is_some_op lock.ops ≡ true)
    → list_any (Rules.is_on x) locks ≡ (list_any (Rules.carries_on x Op'.Read) locks || (list_any (Rules.carries_on x Op'.Write) locks || list_any (Rules.carries_on x Op'.Add) locks))
unfolding Rules.carries_on is_some_op
on_carries x [] carry = refl
on_carries x (lock ∷ locks) carry = go (Rules.is_on x lock) carry (on_carries x locks) where
  go : (on : Bool) → ((l : Lock) → cond on (Some lock) (find (Rules.is_on x) locks) ≡ Some l → is_some_op l.ops ≡ true)
      → (((l : Lock) → find (Rules.is_on x) locks ≡ Some l → is_some_op l.ops ≡ true) → list_any (Rules.is_on x) locks ≡ (list_any (Rules.carries_on x Op'.Read) locks || (list_any (Rules.carries_on x Op'.Write) locks || list_any (Rules.carries_on x Op'.Add) locks)))
      → (on || list_any (Rules.is_on x) locks)
      ≡ ((on && has_op lock.ops Op'.Read || list_any (Rules.carries_on x Op'.Read) locks) || ((on && has_op lock.ops Op'.Write || list_any (Rules.carries_on x Op'.Write) locks) || (on && has_op lock.ops Op'.Add || list_any (Rules.carries_on x Op'.Add) locks)))
  go true each rest = some lock.ops.read lock.ops.write lock.ops.add (list_any (Rules.carries_on x Op'.Read) locks) (list_any (Rules.carries_on x Op'.Write) locks) (list_any (Rules.carries_on x Op'.Add) locks) (each lock refl) where
    some : (r w a b c d : Bool) → (r || w || a) ≡ true → true ≡ ((r || b) || ((w || c) || (a || d)))
    some r w a b c d h = grind (arith, h)
  go false each rest = rest each

-- the objects of the set on which the giver has a lock are those that it hands over
pub lists_moved : (steps : List Step) (table : Locks.LockTable) (giver : ℕ) (obs : ObSet) → IsValid table → ((t x : ℕ) (op : Op) → Locks.carries table t x op ≡ holds steps t x op) → (x : ℕ)
    → lists (numbers (filter (λ (o : Ob). in_set obs o.0) (Locks.held_in table giver))) x ≡ (in_set obs x && holds_object steps giver x)
unfolding lists numbers Locks.held_in Locks.lock_in Rules.is_on
lists_moved steps table giver obs valid same x =
    any_map (λ m. eqb m x) (λ (o : Ob). o.0) (filter (λ (o : Ob). in_set obs o.0) (Locks.held_in table giver))
    ∙ any_filter (λ (o : Ob). eqb o.0 x) (λ (o : Ob). in_set obs o.0) (Locks.held_in table giver)
    ∙ any_alike (λ (o : Ob). in_set obs o.0 && eqb o.0 x) (λ (o : Ob). in_set obs x && eqb o.0 x) (Locks.held_in table giver) (λ o. here o (eqb o.0 x) refl)
    ∙ all_and (in_set obs x) (λ (o : Ob). eqb o.0 x) (Locks.held_in table giver)
    ∙ ap (λ b. in_set obs x && b) held where
      here : (o : Ob) (on : Bool) → eqb o.0 x ≡ on → (in_set obs o.0 && on) ≡ (in_set obs x && on)
      here o true e = ap (λ n. in_set obs n && true) (eqb-true o.0 x e)
      here o false e = grind arith

      own : (op : Op) → list_any (Rules.carries_on x op) (Locks.locks_of table giver) ≡ holds steps giver x op
      own op = sym (carries_own table giver x op valid.names) ∙ same giver x op

      held : list_any (λ (o : Ob). eqb o.0 x) (map (λ (lock : Lock). lock.object) (Locks.locks_of table giver)) ≡ holds_object steps giver x
      held =
          any_map (λ (o : Ob). eqb o.0 x) (λ (lock : Lock). lock.object) (Locks.locks_of table giver)
          ∙ on_carries x (Locks.locks_of table giver) (valid.carry giver x)
          ∙ (λ i. own Op'.Read i || (own Op'.Write i || own Op'.Add i))
          ∙ sym (holds_by_some_op steps giver x)

-- ---- permits

-- which permits stand after a delegation
pub permitted_delegate : (giver taker : Txn) (obs : ObSet) (steps : List Step) → live steps giver.0 ≡ true → live steps taker.0 ≡ true → (u n x : ℕ) (op : Op)
    → permitted (Delegate giver taker obs ∷ steps) u n x op ≡ (permitted steps u n x op || (eqb u taker.0 && (in_set obs x && holds_object steps giver.0 x) && permitted steps giver.0 n x op))
unfolding permitted
permitted_delegate giver taker obs steps gives takes u n x op =
    rw (live_delegated giver taker obs steps u, live_delegated giver taker obs steps n, arrows_delegated giver taker obs steps x op u n, gives, eqb-flip u taker.0) (go (eqb taker.0 u) refl (in_set obs x && holds_object steps giver.0 x)) where
      go : (to : Bool) → eqb taker.0 u ≡ to → (moves : Bool)
          → (live steps u && live steps n && ((to && (moves && has_arrow (permits steps x op) giver.0 n)) || has_arrow (permits steps x op) u n))
          ≡ ((live steps u && live steps n && has_arrow (permits steps x op) u n) || (to && moves && (true && live steps n && has_arrow (permits steps x op) giver.0 n)))
      go false e moves = grind arith
      go true e moves = rw (subst (λ m. live steps m ≡ true) (eqb-true taker.0 u e) takes) (grind arith)

-- ---- all of it

-- the descriptors after the copies of the giver's on the moved objects
abbrev pub IsCopied : ℕ → ℕ → List ℕ → List Descriptor → List Descriptor → Type 0
IsCopied giver taker moved before later = (u n x : ℕ) (op : Op) → one_covers later u n x op ≡ (one_covers before u n x op || (eqb u taker && lists moved x && one_covers before giver n x op))

-- the taker opens what the giver opens on the moved objects
abbrev pub IsOpened : ℕ → ℕ → List ℕ → List Descriptor → List Descriptor → Type 0
IsOpened giver taker moved before later = (u x : ℕ) (op : Op) → opens later u x op ≡ (opens before u x op || (eqb u taker && lists moved x && opens before giver x op))

-- the same change of the same cell
changed_where : (test : ℕ → Bool) (change : Cell → Cell) (one other : Cells) (x : ℕ) → one x ≡ other x → change_where test change one x ≡ change_where test change other x
unfolding change_where
changed_where test change one other x same = rw same

-- a delegation between live transactions
pub delegate_shows : (opening : Opening) (steps : List Step) (rows : List NamedTransRow) (objects : Cells) (table : Locks.LockTable) (descriptors : List Descriptor) (deps : List Dependency) (giver taker : Txn) (obs : ObSet) → Shows opening steps (table_values rows objects table descriptors deps)
    → live steps giver.0 ≡ true → live steps taker.0 ≡ true → IsValid table → is_some (Locks.enrolled_in table taker.0) ≡ true → (later : List Descriptor)
    → IsCopied giver.0 taker.0 (numbers (filter (λ (o : Ob). in_set obs o.0) (Locks.held_in table giver.0))) descriptors later
    → IsOpened giver.0 taker.0 (numbers (filter (λ (o : Ob). in_set obs o.0) (Locks.held_in table giver.0))) descriptors later
    → Shows opening (Delegate giver taker obs ∷ steps) (table_values rows (change_where (in_set obs) (handed_cell giver.0 taker.0) objects) (Locks.hand_over_in giver.0 taker.0 obs table) later deps)
unfolding initiated initiated_by begun begun_by completed completed_by parent_of parent_by dependencies dependency_by
delegate_shows opening steps rows objects table descriptors deps giver taker obs shows gives takes valid enrolled later copied opened = record {
  names = shows.names;
  statuses = λ n. shows.statuses n ∙ sym (status_quiet (Delegate giver taker obs) steps refl refl refl (delegate_ends giver taker obs steps) n);
  parents = shows.parents;
  cells = λ x. changed_where (in_set obs) (handed_cell giver.0 taker.0) objects (cell_of opening steps) x (shows.cells x) ∙ cell_delegate opening giver taker obs steps gives takes x;
  enrolled = names_handed giver.0 taker.0 obs table ∙ shows.enrolled ∙ sym (enrolled_quiet (Delegate giver taker obs ∷ steps) steps refl (delegate_ends giver taker obs steps));
  locks = λ n x op. carries_given giver.0 taker.0 obs table n x op valid enrolled ∙ rw (shows.locks giver.0 x op, shows.locks n x op) (sym (holds_delegated giver taker obs steps gives takes n x op));
  permits_stand = λ u n x op. copied u n x op ∙ rw (lists_moved steps table giver.0 obs valid shows.locks x, shows.permits_stand u n x op, shows.permits_stand giver.0 n x op) (sym (permitted_delegate giver taker obs steps gives takes u n x op));
  openers_stand = λ u x op. opened u x op ∙ rw (lists_moved steps table giver.0 obs valid shows.locks x, shows.openers_stand u x op, shows.openers_stand giver.0 x op) (sym (opener_delegate giver taker obs steps gives takes u x op));
  dependencies_stand = λ k u v. shows.dependencies_stand k u v ∙ sym (depended_quiet (Delegate giver taker obs ∷ steps) steps refl (delegate_ends giver taker obs steps) (λ y. refl) k u v);
}
