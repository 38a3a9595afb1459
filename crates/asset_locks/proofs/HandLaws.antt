-- What a hand-over leaves: who carries what, who is enrolled, and who waits.
use Rattle.std.proofs.Common.{◌≡◌, ℕ, Bool, true, false, eqb, not, cond, ◌&&◌, ◌||◌, List, [], ◌∷◌, map, filter, Some, is_some, refl, sym, ap, ◌∙◌, inl, inr}
use Rattle.std.specs.Prelude.{find}
use Rattle.std.specs.List.{list_any, IsDistinct}
use Rattle.std.proofs.lemmas.Bool.{eqb-true, and_parts, or_parts, cases_Bool}
use Rattle.std.proofs.lemmas.List.Folds.{list_any-append}
use Rattle.std.proofs.lemmas.Map.Views.{any-filter_same}
use Rattle.asset_names.proofs.Common.{eqb-flip, or_false}
use Rattle.asset_names.specs.declared.operations.Op.{Op}
use Rattle.asset_names.specs.declared.operations.Op.TheVariants as Op'
use Rattle.asset_names.specs.declared.sets.ObSet.{ObSet}
use Rattle.asset_names.specs.InSet.{in_set}
use Rattle.asset_names.specs.OpSets.{OpSet, has_op}
use Rattle.asset_names.proofs.ListLemmas.{any_alike, any_map, any_either, any_and}
use Rattle.asset_chains.specs.Chained.{lists}
use Rattle.asset_chains.proofs.KeyLemmas.{distinct_head, distinct_tail}
use Rattle.asset_lock_store.specs.declared.lock.Lock.{Lock}
use Rattle.asset_locks.specs.LockTable.{Enrolled, LockTable, carries, names_in, enrolled_in, locks_or_none, locks_of, handed_row, hand_over_in}
use Rattle.asset_lock_store.specs.LockRules.{is_on, carries_on, moved, both_ops, ops_on, merged, left, with_moved}
use Rattle.asset_locks.specs.Valid.{IsValid}
use Rattle.asset_lock_store.proofs.MergeLemmas.{merged_here, merged_apart, merged_object, none_carries}

-- ---- the locks of one transaction
has_both : (ops others : OpSet) (op : Op) → has_op (both_ops ops others) op ≡ (has_op ops op || has_op others op)
unfolding both_ops
has_both ops others Op'.Read = refl
has_both ops others Op'.Write = refl
has_both ops others Op'.Add = refl

has_on : (x : ℕ) (locks : List Lock) (op : Op) → has_op (ops_on x locks) op ≡ list_any (carries_on x op) locks
unfolding ops_on
has_on x locks Op'.Read = refl
has_on x locks Op'.Write = refl
has_on x locks Op'.Add = refl

-- a lock that is merged carries the operations of both
has_merged : (given : List Lock) (lock : Lock) (op : Op) → has_op (merged given lock).ops op ≡ (has_op lock.ops op || list_any (carries_on lock.object.0 op) given)
has_merged given lock op = elim (cases_Bool (list_any (is_on lock.object.0) given)) [
  | inl on ↦
      ap (λ (l : Lock). has_op l.ops op) (merged_here given lock on)
      ∙ has_both lock.ops (ops_on lock.object.0 given) op
      ∙ ap (λ (b : Bool). has_op lock.ops op || b) (has_on lock.object.0 given op)
  | inr off ↦
      ap (λ (l : Lock). has_op l.ops op) (merged_apart given lock off)
      ∙ sym (or_false (has_op lock.ops op))
      ∙ ap (λ (b : Bool). has_op lock.ops op || b) (sym (none_carries lock.object.0 op given off))
]

merged_carries : (y : ℕ) (op : Op) (given : List Lock) (lock : Lock) → carries_on y op (merged given lock) ≡ (carries_on y op lock || (is_on y lock && list_any (carries_on y op) given))
unfolding carries_on is_on
merged_carries y op given lock =
    (λ i. eqb (merged_object given lock i).0 y && has_merged given lock op i)
    ∙ go (eqb lock.object.0 y) refl where
      go : (here : Bool) → eqb lock.object.0 y ≡ here → (here && (has_op lock.ops op || list_any (carries_on lock.object.0 op) given)) ≡ ((here && has_op lock.ops op) || (here && list_any (carries_on y op) given))
      go true e = ap (λ (x : ℕ). has_op lock.ops op || list_any (carries_on x op) given) (eqb-true lock.object.0 y e)
      go false e = refl

on_carried : (y : ℕ) (op : Op) (lock : Lock) → carries_on y op lock ≡ true → lock.object.0 ≡ y
unfolding carries_on is_on
on_carried y op lock there = eqb-true lock.object.0 y (and_parts (eqb lock.object.0 y) (has_op lock.ops op) there).0

-- what the giver keeps, and what it gives
left_carries : (y : ℕ) (op : Op) (set : ObSet) (locks : List Lock) → list_any (carries_on y op) (left set locks) ≡ (not (in_set set y) && list_any (carries_on y op) locks)
unfolding left moved
left_carries y op set locks =
    any-filter_same (carries_on y op) (λ (lock : Lock). not (moved set lock)) (not (in_set set y)) (λ lock there. ap (λ (x : ℕ). not (in_set set x)) (on_carried y op lock there)) locks

given_carries : (y : ℕ) (op : Op) (set : ObSet) (locks : List Lock) → list_any (carries_on y op) (filter (moved set) locks) ≡ (in_set set y && list_any (carries_on y op) locks)
unfolding moved
given_carries y op set locks = any-filter_same (carries_on y op) (moved set) (in_set set y) (λ lock there. ap (in_set set) (on_carried y op lock there)) locks

-- what the taker has then
came_carries : (y : ℕ) (op : Op) (given locks : List Lock) → list_any (carries_on y op) (with_moved given locks) ≡ (list_any (carries_on y op) locks || list_any (carries_on y op) given)
unfolding with_moved
came_carries y op given locks =
    list_any-append (carries_on y op) (map (merged given) locks) (filter (λ (lock : Lock). not (list_any (is_on lock.object.0) locks)) given)
    ∙ (λ i. old_ones i || new_ones i)
    ∙ both (list_any (carries_on y op) locks) (list_any (is_on y) locks) (list_any (carries_on y op) given) where
      old_ones : list_any (carries_on y op) (map (merged given) locks) ≡ (list_any (carries_on y op) locks || (list_any (is_on y) locks && list_any (carries_on y op) given))
      old_ones =
          any_map (carries_on y op) (merged given) locks
          ∙ any_alike (λ lock. carries_on y op (merged given lock)) (λ lock. carries_on y op lock || (is_on y lock && list_any (carries_on y op) given)) locks (merged_carries y op given)
          ∙ any_either (carries_on y op) (λ lock. is_on y lock && list_any (carries_on y op) given) locks
          ∙ ap (λ (b : Bool). list_any (carries_on y op) locks || b) (any_and (is_on y) (list_any (carries_on y op) given) locks)

      new_ones : list_any (carries_on y op) (filter (λ (lock : Lock). not (list_any (is_on lock.object.0) locks)) given) ≡ (not (list_any (is_on y) locks) && list_any (carries_on y op) given)
      new_ones =
          any-filter_same (carries_on y op) (λ (lock : Lock). not (list_any (is_on lock.object.0) locks)) (not (list_any (is_on y) locks))
          (λ lock there. ap (λ (x : ℕ). not (list_any (is_on x) locks)) (on_carried y op lock there)) given

      both : (a b g : Bool) → ((a || (b && g)) || (not b && g)) ≡ (a || g)
      both true b g = refl
      both false true true = refl
      both false true false = refl
      both false false g = refl

-- ---- the rows
-- whether a row is t's, with a lock on x that carries op
abbrev pub row_carries : ℕ → ℕ → Op → Enrolled → Bool
row_carries t x op who = eqb who.name t && list_any (carries_on x op) who.locks

-- one that is not listed has no row
not_named : (t x : ℕ) (op : Op) (table : LockTable) → lists (map (λ (who : Enrolled). who.name) table) t ≡ false → list_any (row_carries t x op) table ≡ false
not_named t x op [] none = refl
not_named t x op (who ∷ table) none =
    let parts = or_parts (eqb t who.name) (lists (map (λ (who : Enrolled). who.name) table) t) none in
    λ i. ((eqb-flip who.name t ∙ parts.0) i && list_any (carries_on x op) who.locks) || not_named t x op table parts.1 i

-- what a name carries is carried by its locks
pub carries_own : (table : LockTable) (t x : ℕ) (op : Op) → IsDistinct eqb (names_in table) → carries table t x op ≡ list_any (carries_on x op) (locks_of table t)
unfolding carries names_in locks_of enrolled_in locks_or_none
carries_own [] t x op distinct = refl
carries_own (who ∷ table) t x op distinct = go (eqb who.name t) refl (carries_own table t x op (distinct_tail who.name (map (λ (w : Enrolled). w.name) table) distinct)) where
  go : (own : Bool) → eqb who.name t ≡ own → list_any (row_carries t x op) table ≡ list_any (carries_on x op) (locks_or_none (find (λ (w : Enrolled). eqb w.name t) table))
      → ((own && list_any (carries_on x op) who.locks) || list_any (row_carries t x op) table) ≡ list_any (carries_on x op) (locks_or_none (cond own (Some who) (find (λ (w : Enrolled). eqb w.name t) table)))
  go true e ih =
      ap (λ (b : Bool). list_any (carries_on x op) who.locks || b)
      (not_named t x op table (ap (lists (map (λ (w : Enrolled). w.name) table)) (sym (eqb-true who.name t e)) ∙ distinct_head who.name (map (λ (w : Enrolled). w.name) table) distinct))
      ∙ or_false (list_any (carries_on x op) who.locks)
  go false e ih = ih

-- what holds of those who have a name holds if somebody has it
pub any_named : (u : ℕ) (holds : ℕ → Bool) (table : LockTable) → list_any (λ (who : Enrolled). eqb who.name u && holds who.name) table ≡ (is_some (find (λ (who : Enrolled). eqb who.name u) table) && holds u)
any_named u holds [] = refl
any_named u holds (who ∷ table) = go (eqb who.name u) refl (any_named u holds table) where
  go : (own : Bool) → eqb who.name u ≡ own → list_any (λ (h : Enrolled). eqb h.name u && holds h.name) table ≡ (is_some (find (λ (h : Enrolled). eqb h.name u) table) && holds u)
      → ((own && holds who.name) || list_any (λ (h : Enrolled). eqb h.name u && holds h.name) table) ≡ (is_some (cond own (Some who) (find (λ (h : Enrolled). eqb h.name u) table)) && holds u)
  go false e ih = ih
  go true e ih = (λ i. holds (eqb-true who.name u e i) || ih i) ∙ once (is_some (find (λ (h : Enrolled). eqb h.name u) table)) (holds u) where
    once : (a b : Bool) → (b || (a && b)) ≡ b
    once true true = refl
    once true false = refl
    once false true = refl
    once false false = refl

module _ (giver taker : ℕ) (set : ObSet) (given : List Lock) (u y : ℕ) (op : Op) where
  -- a row after the hand-over of a set in which y is not
  row_stays : in_set set y ≡ false → list_any (carries_on y op) given ≡ false → (who : Enrolled) → row_carries u y op (handed_row giver taker set given who) ≡ row_carries u y op who
  unfolding handed_row
  row_stays out none who = go (eqb who.name giver) (eqb who.name taker) where
    go : (g t : Bool) → row_carries u y op (cond g (record who { locks = left set who.locks }) (cond t (record who { locks = with_moved given who.locks }) who)) ≡ row_carries u y op who
    go true t = ap (λ (b : Bool). eqb who.name u && b) (left_carries y op set who.locks ∙ ap (λ (b : Bool). not b && list_any (carries_on y op) who.locks) out)
    go false true = ap (λ (b : Bool). eqb who.name u && b) (came_carries y op given who.locks ∙ ap (λ (b : Bool). list_any (carries_on y op) who.locks || b) none ∙ or_false (list_any (carries_on y op) who.locks))
    go false false = refl

  -- and of one in which it is
  row_moves : in_set set y ≡ true → (who : Enrolled) → row_carries u y op (handed_row giver taker set given who)
      ≡ ((eqb who.name taker && (not (eqb who.name giver) && (eqb who.name u && list_any (carries_on y op) given))) || (row_carries u y op who && not (eqb who.name giver)))
  unfolding handed_row
  row_moves among who = go (eqb who.name giver) (eqb who.name taker) where
    nothing : (t n r : Bool) → (n && false) ≡ ((t && false) || (r && false))
    nothing true true true = refl
    nothing true true false = refl
    nothing true false true = refl
    nothing true false false = refl
    nothing false true true = refl
    nothing false true false = refl
    nothing false false true = refl
    nothing false false false = refl

    either : (n a g : Bool) → (n && (a || g)) ≡ ((n && g) || ((n && a) && true))
    either true true true = refl
    either true true false = refl
    either true false true = refl
    either true false false = refl
    either false a g = refl

    and_yes : (b : Bool) → (b && true) ≡ b
    and_yes true = refl
    and_yes false = refl

    go : (g t : Bool) → row_carries u y op (cond g (record who { locks = left set who.locks }) (cond t (record who { locks = with_moved given who.locks }) who))
        ≡ ((t && (not g && (eqb who.name u && list_any (carries_on y op) given))) || (row_carries u y op who && not g))
    go true t = ap (λ (b : Bool). eqb who.name u && b) (left_carries y op set who.locks ∙ ap (λ (b : Bool). not b && list_any (carries_on y op) who.locks) among) ∙ nothing t (eqb who.name u) (row_carries u y op who)
    go false true = ap (λ (b : Bool). eqb who.name u && b) (came_carries y op given who.locks) ∙ either (eqb who.name u) (list_any (carries_on y op) who.locks) (list_any (carries_on y op) given)
    go false false = sym (and_yes (row_carries u y op who))

-- the test of a name is that of another that is the same
same_name : (who : Enrolled) (u : ℕ) (giver : ℕ) (b : Bool) → ((eqb who.name u && b) && not (eqb who.name giver)) ≡ ((eqb who.name u && b) && not (eqb u giver))
same_name who u giver b = go (eqb who.name u) refl where
  go : (own : Bool) → eqb who.name u ≡ own → ((own && b) && not (eqb who.name giver)) ≡ ((own && b) && not (eqb u giver))
  go true e = ap (λ (n : ℕ). b && not (eqb n giver)) (eqb-true who.name u e)
  go false e = refl

-- who carries what after a hand-over
module _ (giver taker : ℕ) (set : ObSet) (table : LockTable) (u y : ℕ) (op : Op) (valid : IsValid table) (differ : eqb giver taker ≡ false) (enrolled : is_some (enrolled_in table taker) ≡ true) where
  abbrev pub gives : List Lock
  gives = filter (moved set) (locks_of table giver)

  handed_over : carries (hand_over_in giver taker set table) u y op ≡ list_any (λ who. row_carries u y op (handed_row giver taker set gives who)) table
  unfolding carries hand_over_in
  handed_over =
      ap (λ (b : Bool). list_any (row_carries u y op) (cond b table (map (handed_row giver taker set gives) table))) differ
      ∙ any_map (row_carries u y op) (handed_row giver taker set gives) table

  -- of an object that is not in the set
  stays_carried : in_set set y ≡ false → list_any (λ who. row_carries u y op (handed_row giver taker set gives who)) table ≡ carries table u y op
  unfolding carries
  stays_carried out =
      any_alike (λ who. row_carries u y op (handed_row giver taker set gives who)) (row_carries u y op) table
      (row_stays giver taker set gives u y op out (given_carries y op set (locks_of table giver) ∙ ap (λ (b : Bool). b && list_any (carries_on y op) (locks_of table giver)) out))

  -- the taker carries what the giver did
  taker_carries : list_any (λ (who : Enrolled). eqb who.name taker && (not (eqb who.name giver) && (eqb who.name u && list_any (carries_on y op) gives))) table ≡ (eqb u taker && list_any (carries_on y op) gives)
  unfolding enrolled_in
  taker_carries =
      any_named taker (λ n. not (eqb n giver) && (eqb n u && list_any (carries_on y op) gives)) table
      ∙ (λ i. enrolled i && (not ((eqb-flip taker giver ∙ differ) i) && (eqb-flip taker u i && list_any (carries_on y op) gives)))

  -- and the giver nothing
  others_carry : list_any (λ (who : Enrolled). row_carries u y op who && not (eqb who.name giver)) table ≡ (not (eqb u giver) && carries table u y op)
  unfolding carries
  others_carry =
      any_alike (λ who. row_carries u y op who && not (eqb who.name giver)) (λ who. row_carries u y op who && not (eqb u giver)) table (λ who. same_name who u giver (list_any (carries_on y op) who.locks))
      ∙ any_and (row_carries u y op) (not (eqb u giver)) table
      ∙ turned (list_any (row_carries u y op) table) (not (eqb u giver)) where
        turned : (a b : Bool) → (a && b) ≡ (b && a)
        turned true true = refl
        turned true false = refl
        turned false true = refl
        turned false false = refl

  gives_carries : in_set set y ≡ true → list_any (carries_on y op) gives ≡ carries table giver y op
  gives_carries among =
      given_carries y op set (locks_of table giver)
      ∙ ap (λ (b : Bool). b && list_any (carries_on y op) (locks_of table giver)) among
      ∙ sym (carries_own table giver y op valid.names)

  moves_carried : in_set set y ≡ true → list_any (λ who. row_carries u y op (handed_row giver taker set gives who)) table ≡ ((eqb u taker && carries table giver y op) || (not (eqb u giver) && carries table u y op))
  moves_carried among =
      any_alike (λ who. row_carries u y op (handed_row giver taker set gives who))
      (λ who. (eqb who.name taker && (not (eqb who.name giver) && (eqb who.name u && list_any (carries_on y op) gives))) || (row_carries u y op who && not (eqb who.name giver))) table (row_moves giver taker set gives u y op among)
      ∙ any_either (λ (who : Enrolled). eqb who.name taker && (not (eqb who.name giver) && (eqb who.name u && list_any (carries_on y op) gives))) (λ who. row_carries u y op who && not (eqb who.name giver)) table
      ∙ (λ i. taker_carries i || others_carry i)
      ∙ ap (λ (b : Bool). (eqb u taker && b) || (not (eqb u giver) && carries table u y op)) (gives_carries among)

  pub carries_handed : carries (hand_over_in giver taker set table) u y op ≡ cond (in_set set y) ((eqb u taker && carries table giver y op) || (not (eqb u giver) && carries table u y op)) (carries table u y op)
  carries_handed = handed_over ∙ by_set (in_set set y) refl where
    by_set : (b : Bool) → in_set set y ≡ b → list_any (λ who. row_carries u y op (handed_row giver taker set gives who)) table
        ≡ cond b ((eqb u taker && carries table giver y op) || (not (eqb u giver) && carries table u y op)) (carries table u y op)
    by_set true among = moves_carried among
    by_set false out = stays_carried out

-- ---- who is enrolled, and who waits
pub names_changed : (change : Enrolled → Enrolled) (table : LockTable) → ((who : Enrolled) → (change who).name ≡ who.name) → map (λ (who : Enrolled). who.name) (map change table) ≡ map (λ (who : Enrolled). who.name) table
names_changed change [] keeps = refl
names_changed change (who ∷ table) keeps = λ i. keeps who i ∷ names_changed change table keeps i

pub found_changed : (change : Enrolled → Enrolled) (u : ℕ) (table : LockTable) → ((who : Enrolled) → (change who).name ≡ who.name)
    → is_some (find (λ (who : Enrolled). eqb who.name u) (map change table)) ≡ is_some (find (λ (who : Enrolled). eqb who.name u) table)
found_changed change u [] keeps = refl
found_changed change u (who ∷ table) keeps = ap (λ (n : ℕ). is_some (cond (eqb n u) (Some (change who)) (find (λ (w : Enrolled). eqb w.name u) (map change table)))) (keeps who) ∙ go (eqb who.name u) (found_changed change u table keeps) where
  go : (b : Bool) → is_some (find (λ (w : Enrolled). eqb w.name u) (map change table)) ≡ is_some (find (λ (w : Enrolled). eqb w.name u) table)
      → is_some (cond b (Some (change who)) (find (λ (w : Enrolled). eqb w.name u) (map change table))) ≡ is_some (cond b (Some who) (find (λ (w : Enrolled). eqb w.name u) table))
  go true ih = refl
  go false ih = ih

pub handed_name : (giver taker : ℕ) (set : ObSet) (given : List Lock) (who : Enrolled) → (handed_row giver taker set given who).name ≡ who.name
unfolding handed_row
handed_name giver taker set given who = go (eqb who.name giver) (eqb who.name taker) where
  go : (g t : Bool) → (cond g (record who { locks = left set who.locks }) (cond t (record who { locks = with_moved given who.locks }) who)).name ≡ who.name
  go true t = refl
  go false true = refl
  go false false = refl

pub handed_pending : (giver taker : ℕ) (set : ObSet) (given : List Lock) (who : Enrolled) → (handed_row giver taker set given who).pending ≡ who.pending
unfolding handed_row
handed_pending giver taker set given who = go (eqb who.name giver) (eqb who.name taker) where
  go : (g t : Bool) → (cond g (record who { locks = left set who.locks }) (cond t (record who { locks = with_moved given who.locks }) who)).pending ≡ who.pending
  go true t = refl
  go false true = refl
  go false false = refl

pub names_handed : (giver taker : ℕ) (set : ObSet) (table : LockTable) → names_in (hand_over_in giver taker set table) ≡ names_in table
unfolding names_in hand_over_in
names_handed giver taker set table = go (eqb giver taker) where
  go : (b : Bool) → map (λ (who : Enrolled). who.name) (cond b table (map (handed_row giver taker set (filter (moved set) (locks_of table giver))) table)) ≡ map (λ (who : Enrolled). who.name) table
  go true = refl
  go false = names_changed _ table (handed_name giver taker set (filter (moved set) (locks_of table giver)))

pub enrolled_handed : (giver taker : ℕ) (set : ObSet) (table : LockTable) (u : ℕ) → is_some (enrolled_in (hand_over_in giver taker set table) u) ≡ is_some (enrolled_in table u)
unfolding enrolled_in hand_over_in
enrolled_handed giver taker set table u = go (eqb giver taker) where
  go : (b : Bool) → is_some (find (λ (who : Enrolled). eqb who.name u) (cond b table (map (handed_row giver taker set (filter (moved set) (locks_of table giver))) table))) ≡ is_some (find (λ (who : Enrolled). eqb who.name u) table)
  go true = refl
  go false = found_changed _ u table (handed_name giver taker set (filter (moved set) (locks_of table giver)))
