-- The taker's locks after locks of the giver came, one after another.
use Rattle.std.proofs.Common.{◌≡◌, ℕ, Bool, true, false, eqb, not, cond, ◌&&◌, ◌||◌, List, [], ◌∷◌, ◌++◌, map, filter, refl, sym, ap, ◌∙◌, append_assoc, inl, inr}
use Rattle.std.specs.List.{list_any}
use Rattle.std.proofs.lemmas.Bool.{cases_Bool, or_parts}
use Rattle.std.proofs.lemmas.List.{map-append, append-nil}
use Rattle.std.proofs.lemmas.List.Folds.{list_any-append}
use Rattle.asset_names.proofs.Common.{eqb-flip, or_false}
use Rattle.asset_names.specs.declared.operations.Op.{Op}
use Rattle.asset_names.specs.declared.operations.Op.TheVariants as Op'
use Rattle.asset_names.specs.OpSets.{OpSet, op_set, has_op}
use Rattle.asset_lock_store.specs.declared.lock.Lock.{Lock}
use Rattle.asset_lock_store.specs.LockRules.{is_on, carries_on, both_ops, ops_on, merged, with_moved}
use Rattle.asset_lock_store.proofs.LockLemmas.{on_to}

-- the lock with these operations too, suspended
abbrev pub with_ops : OpSet → Lock → Lock
with_ops ops lock = record lock { ops = both_ops lock.ops ops; granted = false }

-- no lock on the object carries an operation if there is no lock on it
pub none_carries : (x : ℕ) (op : Op) (locks : List Lock) → list_any (is_on x) locks ≡ false → list_any (carries_on x op) locks ≡ false
unfolding carries_on
none_carries x op [] none = refl
none_carries x op (l ∷ locks) none =
    let parts = or_parts (is_on x l) (list_any (is_on x) locks) none in
    λ i. (parts.0 i && has_op l.ops op) || none_carries x op locks parts.1 i

-- a lock that comes first carries nothing on another object
ops_off : (x : ℕ) (l : Lock) (locks : List Lock) → is_on x l ≡ false → ops_on x (l ∷ locks) ≡ ops_on x locks
unfolding ops_on carries_on
ops_off x l locks off = λ i. op_set ((off i && has_op l.ops Op'.Read) || list_any (carries_on x Op'.Read) locks) ((off i && has_op l.ops Op'.Write) || list_any (carries_on x Op'.Write) locks) ((off i && has_op l.ops Op'.Add) || list_any (carries_on x Op'.Add) locks)

-- and all on its own, if the others are on other objects
ops_first : (x : ℕ) (l : Lock) (locks : List Lock) → list_any (is_on x) locks ≡ false → ops_on x (l ∷ locks) ≡ ops_on x (l ∷ [])
unfolding ops_on
ops_first x l locks none = λ i. op_set (carries_on x Op'.Read l || none_carries x Op'.Read locks none i) (carries_on x Op'.Write l || none_carries x Op'.Write locks none i) (carries_on x Op'.Add l || none_carries x Op'.Add locks none i)

-- the operations of the one lock that comes on the object
pub ops_one : (x : ℕ) (l : Lock) → is_on x l ≡ true → ops_on x (l ∷ []) ≡ l.ops
unfolding ops_on carries_on
ops_one x l on = λ i. op_set (go l.ops.read i) (go l.ops.write i) (go l.ops.add i) where
  go : (b : Bool) → ((is_on x l && b) || false) ≡ b
  go b = or_false (is_on x l && b) ∙ ap (λ (a : Bool). a && b) on

-- ---- one lock of the taker's
pub merged_here : (given : List Lock) (lock : Lock) → list_any (is_on lock.object.0) given ≡ true → merged given lock ≡ with_ops (ops_on lock.object.0 given) lock
unfolding merged
merged_here given lock on = ap (λ (b : Bool). cond b (with_ops (ops_on lock.object.0 given) lock) lock) on

pub merged_apart : (given : List Lock) (lock : Lock) → list_any (is_on lock.object.0) given ≡ false → merged given lock ≡ lock
unfolding merged
merged_apart given lock off = ap (λ (b : Bool). cond b (with_ops (ops_on lock.object.0 given) lock) lock) off

-- it stays on its object
pub merged_object : (given : List Lock) (lock : Lock) → (merged given lock).object ≡ lock.object
unfolding merged
merged_object given lock = go (list_any (is_on lock.object.0) given) where
  go : (b : Bool) → (cond b (with_ops (ops_on lock.object.0 given) lock) lock).object ≡ lock.object
  go true = refl
  go false = refl

-- whether two locks are on one object, either way round
on_flip : (l q : Lock) → is_on l.object.0 q ≡ is_on q.object.0 l
unfolding is_on
on_flip l q = eqb-flip q.object.0 l.object.0

-- a lock that comes on another object changes nothing
merged_more : (l : Lock) (given : List Lock) (lock : Lock) → is_on lock.object.0 l ≡ false → merged (l ∷ given) lock ≡ merged given lock
unfolding merged
merged_more l given lock off = λ i. cond (off i || list_any (is_on lock.object.0) given) (with_ops (ops_off lock.object.0 l given off i) lock) lock

-- a lock merges with those that come one after another, as it merges with all of them
merged_twice : (l : Lock) (given : List Lock) (lock : Lock) → list_any (is_on l.object.0) given ≡ false → merged given (merged (l ∷ []) lock) ≡ merged (l ∷ given) lock
merged_twice l given lock none = elim (cases_Bool (is_on lock.object.0 l)) [
  | inl on ↦
      let others : list_any (is_on lock.object.0) given ≡ false = ap (λ (x : ℕ). list_any (is_on x) given) (sym (on_to lock.object.0 l on)) ∙ none in
      ap (merged given) (merged_here (l ∷ []) lock (ap (λ (b : Bool). b || false) on))
      ∙ merged_apart given (with_ops (ops_on lock.object.0 (l ∷ [])) lock) others
      ∙ ap (λ (ops : OpSet). with_ops ops lock) (sym (ops_first lock.object.0 l given others))
      ∙ sym (merged_here (l ∷ given) lock (ap (λ (b : Bool). b || list_any (is_on lock.object.0) given) on))
  | inr off ↦
      ap (merged given) (merged_apart (l ∷ []) lock (ap (λ (b : Bool). b || false) off))
      ∙ sym (merged_more l given lock off)
]

-- ---- all locks of the taker's
all_merged : (l : Lock) (given locks : List Lock) → list_any (is_on l.object.0) given ≡ false → map (merged given) (map (merged (l ∷ [])) locks) ≡ map (merged (l ∷ given)) locks
all_merged l given [] none = refl
all_merged l given (lock ∷ locks) none = λ i. merged_twice l given lock none i ∷ all_merged l given locks none i

-- the same objects have locks
same_objects : (given locks : List Lock) (x : ℕ) → list_any (is_on x) (map (merged given) locks) ≡ list_any (is_on x) locks
unfolding is_on
same_objects given [] x = refl
same_objects given (lock ∷ locks) x = λ i. eqb (merged_object given lock i).0 x || same_objects given locks x i

nothing_merged : (locks : List Lock) → map (merged []) locks ≡ locks
unfolding merged
nothing_merged [] = refl
nothing_merged (lock ∷ locks) = ap (λ (l : List Lock). lock ∷ l) (nothing_merged locks)

-- nothing comes
pub nothing_moved : (locks : List Lock) → with_moved [] locks ≡ locks
unfolding with_moved
nothing_moved locks = append-nil (map (merged []) locks) ∙ nothing_merged locks

-- a lock is on an object without a lock
none_merged : (l : Lock) (locks : List Lock) → list_any (is_on l.object.0) locks ≡ false → map (merged (l ∷ [])) locks ≡ locks
none_merged l [] none = refl
none_merged l (lock ∷ locks) none =
    let parts = or_parts (is_on l.object.0 lock) (list_any (is_on l.object.0) locks) none in
    λ i. merged_apart (l ∷ []) lock (ap (λ (b : Bool). b || false) (sym (on_flip l lock) ∙ parts.0)) i ∷ none_merged l locks parts.1 i

-- the locks that come and are not merged
new_ones : (given locks : List Lock) → List Lock
new_ones given locks = filter (λ (lock : Lock). not (list_any (is_on lock.object.0) locks)) given

-- one lock comes
pub moved_here : (l : Lock) (locks : List Lock) → list_any (is_on l.object.0) locks ≡ true → with_moved (l ∷ []) locks ≡ map (merged (l ∷ [])) locks
unfolding with_moved
moved_here l locks on = ap (λ (b : Bool). map (merged (l ∷ [])) locks ++ cond (not b) (l ∷ []) []) on ∙ append-nil (map (merged (l ∷ [])) locks)

moved_last : (l : Lock) (locks : List Lock) → list_any (is_on l.object.0) locks ≡ false → with_moved (l ∷ []) locks ≡ map (merged (l ∷ [])) locks ++ l ∷ []
unfolding with_moved
moved_last l locks off = ap (λ (b : Bool). map (merged (l ∷ [])) locks ++ cond (not b) (l ∷ []) []) off

pub moved_alone : (l : Lock) (locks : List Lock) → list_any (is_on l.object.0) locks ≡ false → with_moved (l ∷ []) locks ≡ locks ++ l ∷ []
moved_alone l locks off = moved_last l locks off ∙ ap (λ (more : List Lock). more ++ l ∷ []) (none_merged l locks off)

filter_same : (p q : Lock → Bool) (locks : List Lock) (off : Lock → Bool) → list_any off locks ≡ false → ((lock : Lock) → off lock ≡ false → p lock ≡ q lock) → filter p locks ≡ filter q locks
filter_same p q [] off none same = refl
filter_same p q (lock ∷ locks) off none same =
    let parts = or_parts (off lock) (list_any off locks) none in
    λ i. cond (same lock parts.0 i) (lock ∷ filter_same p q locks off parts.1 same i) (filter_same p q locks off parts.1 same i)

-- those that are new to the taker are so after another lock came
new_later : (l : Lock) (given locks more : List Lock) → list_any (is_on l.object.0) given ≡ false → ((q : Lock) → is_on l.object.0 q ≡ false → list_any (is_on q.object.0) more ≡ list_any (is_on q.object.0) locks)
    → new_ones given more ≡ new_ones given locks
unfolding new_ones
new_later l given locks more none same = filter_same _ _ given (is_on l.object.0) none (λ q off. ap not (same q off))

-- locks come one after another
pub moved_first : (l : Lock) (given locks : List Lock) → list_any (is_on l.object.0) given ≡ false → with_moved (l ∷ given) locks ≡ with_moved given (with_moved (l ∷ []) locks)
unfolding with_moved new_ones
moved_first l given locks none = elim (cases_Bool (list_any (is_on l.object.0) locks)) [
  | inl on ↦
      ap (λ (b : Bool). map (merged (l ∷ given)) locks ++ cond (not b) (l ∷ new_ones given locks) (new_ones given locks)) on
      ∙ (λ i. sym (all_merged l given locks none) i ++ sym (new_later l given locks (map (merged (l ∷ [])) locks) none (λ q off. same_objects (l ∷ []) locks q.object.0)) i)
      ∙ ap (with_moved given) (sym (moved_here l locks on))
  | inr off ↦
      ap (λ (b : Bool). map (merged (l ∷ given)) locks ++ cond (not b) (l ∷ new_ones given locks) (new_ones given locks)) off
      ∙ (λ i. sym (all_merged l given locks none) i ++ sym (merged_apart given l none) i ∷ sym (new_later l given locks (map (merged (l ∷ [])) locks ++ l ∷ []) none still) i)
      ∙ sym (append_assoc (map (merged given) (map (merged (l ∷ [])) locks)) (merged given l ∷ []) (new_ones given (map (merged (l ∷ [])) locks ++ l ∷ [])))
      ∙ ap (λ (front : List Lock). front ++ new_ones given (map (merged (l ∷ [])) locks ++ l ∷ [])) (sym (map-append (merged given) (map (merged (l ∷ [])) locks) (l ∷ [])))
      ∙ ap (with_moved given) (sym (moved_last l locks off))
] where
  still : (q : Lock) → is_on l.object.0 q ≡ false → list_any (is_on q.object.0) (map (merged (l ∷ [])) locks ++ l ∷ []) ≡ list_any (is_on q.object.0) locks
  still q apart =
      list_any-append (is_on q.object.0) (map (merged (l ∷ [])) locks) (l ∷ [])
      ∙ (λ i. same_objects (l ∷ []) locks q.object.0 i || ((sym (on_flip l q) ∙ apart) i || false))
      ∙ or_false (list_any (is_on q.object.0) locks)
