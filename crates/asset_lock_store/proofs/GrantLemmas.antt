-- A lock that is granted, and the locks of its seat.
use Rattle.std.proofs.Common.{◌≡◌, ℕ, ◌<◌, ◌≤◌, Bool, true, false, eqb, cond, ◌&&◌, List, [], ◌∷◌, ◌++◌, map, length, Option, Some, None, is_some, refl, sym, ap, subst, ◌∙◌, inl, inr, arith}
use Rattle.std.specs.Prelude.{find}
use Rattle.std.specs.List.{list_any}
use Rattle.std.proofs.lemmas.Bool.{eqb-true, eqb-false, eq-eqb, ne_eqb, cases_Bool, both_ways, and_parts, or_parts}
use Rattle.std.proofs.lemmas.List.{map-append, length-append}
use Rattle.slab.specs.Slab.{get}
use Rattle.asset_names.specs.declared.names.Ob.{Ob}
use Rattle.asset_names.specs.declared.operations.Op.{Op}
use Rattle.asset_names.specs.OpSets.{OpSet, has_op, with_op, only_op}
use Rattle.asset_names.proofs.Common.{some_is_not_none, and_false, and_true}
use Rattle.asset_chains.specs.Chained.{Chained, chain_of, home_of, first_of, lists, ahead, behind, IsConsistent}
use Rattle.asset_chains.proofs.Laws.{chain_at_key, chain_without_key}
use Rattle.asset_chains.proofs.SoundLemmas.{listed_once}
use Rattle.asset_chains.proofs.Walks.{map_same, any_none, any_from, find_key, find_none}
use Rattle.asset_chains.proofs.KeyLemmas.{without_unlisted}
use Rattle.asset_lists.specs.Parted.{part_of, IsChangedAt}
use Rattle.asset_lock_store.specs.declared.lock.Lock.{Lock}
use Rattle.asset_lock_store.specs.LockRules.{is_on, one_conflicts, both_conflict, conflicts_on, suspended, taken, granted_own, new_lock, ops_with, is_some_op}
use Rattle.asset_names.specs.Numbered.{number_in}
use Rattle.asset_lock_store.specs.Stored.{Stored, lock_at, locks_at, part_for, class_of, IsPlaced, IsStored, IsSuspended, IsAdded, IsDropped, IsGrown}
use Rattle.asset_lock_store.proofs.StoreLemmas.{stored_changed, same_lock}
use Rattle.asset_lock_store.proofs.OpsLemmas.{some_with, with_same, with_only, conflict_swapped, conflict_before, conflict_only}
use Rattle.asset_lock_store.proofs.LockLemmas.{on_to, on_from, off_from}

-- the lock with op, granted
abbrev pub with_grant : Op → Lock → Lock
with_grant op lock = record lock { ops = with_op op lock.ops; granted = true }

-- the lock at a key becomes another on its object, which may be in another part
pub stored_written : (old new : Stored) (key number : ℕ) (lock : Lock) → IsStored old → number_in old.objects (lock_at old.locks key).object.0 ≡ Some number → lock.object ≡ (lock_at old.locks key).object
    → ((k : ℕ) → lock_at new.locks k ≡ cond (eqb k key) lock (lock_at old.locks k)) → ((k : ℕ) → is_some (get new.locks k) ≡ is_some (get old.locks k))
    → IsChangedAt key (Some (part_for number (class_of lock.ops))) old.by_object new.by_object → is_some (part_of old.by_object key) ≡ true → new.by_owner ≡ old.by_owner → new.objects ≡ old.objects
    → (is_some_op (lock_at old.locks key).ops ≡ true → is_some_op lock.ops ≡ true)
    → ((j c d : ℕ) → home_of old.by_owner key ≡ Some c → home_of old.by_owner j ≡ Some d → (d ≡ c → ⊥) → (lock_at old.locks j).object.0 ≡ (lock_at old.locks key).object.0
    → both_conflict (lock_at old.locks j).ops lock.ops ≡ true → ((lock_at old.locks j).granted && lock.granted) ≡ false)
    → IsStored new
stored_written old new key number lock stored numbered on_same locks keys change there of_owner objects some alone =
    stored_changed old new stored keys
    (λ k. elim (cases_Bool (eqb k key)) [
      | inl here ↦ ap (λ (n : ℕ). is_some (part_of new.by_object n)) (eqb-true k key here) ∙ ap is_some change.here ∙ sym there ∙ ap (λ (n : ℕ). is_some (part_of old.by_object n)) (sym (eqb-true k key here))
      | inr apart ↦ ap is_some (change.others k (eqb-false k key apart))
    ])
    of_owner
    (subst (λ n. length new.objects ≤ n) (sym change.same_lists) (subst (λ l. length l ≤ old.by_object.lists) (sym objects) stored.lists))
    (λ k c at. elim (cases_Bool (eqb k key)) [
      | inl here ↦ subst (IsPlaced new) (sym (eqb-true k key here)) (record {
        number = number;
        numbered = ap (λ l. number_in l (lock_at new.locks key).object.0) objects ∙ ap (number_in old.objects) (object key) ∙ numbered;
        part = change.here ∙ ap (λ (l : Lock). Some (part_for number (class_of l.ops))) (sym at_key);
      })
      | inr apart ↦
          let placed = stored.placed k c at in
          let same = others k (eqb-false k key apart) in
          record {
            number = placed.number;
            numbered = ap (λ l. number_in l (lock_at new.locks k).object.0) objects ∙ ap (number_in old.objects) (object k) ∙ placed.numbered;
            part = change.others k (eqb-false k key apart) ∙ placed.part ∙ ap (λ (l : Lock). Some (part_for placed.number (class_of l.ops))) (sym same);
          }
    ])
    object
    (λ k c at. elim (cases_Bool (eqb k key)) [
      | inl here ↦
          let is = eqb-true k key here in
          ap (λ (n : ℕ). is_some_op (lock_at new.locks n).ops) is ∙ ap (λ (l : Lock). is_some_op l.ops) at_key ∙ some (ap (λ (n : ℕ). is_some_op (lock_at old.locks n).ops) (sym is) ∙ stored.carry k c at)
      | inr apart ↦ ap (λ (l : Lock). is_some_op l.ops) (others k (eqb-false k key apart)) ∙ stored.carry k c at
    ])
    (λ j k c d one other differ same conflict. elim (cases_Bool (eqb j key)) [
      | inl first ↦ elim (cases_Bool (eqb k key)) [
        | inl second ↦ absurd (differ (same_seat c d (sym one ∙ ap (home_of old.by_owner) (eqb-true j key first ∙ sym (eqb-true k key second)) ∙ other)))
        | inr apart ↦
            let is = eqb-true j key first in
            let here = ap (λ (n : ℕ). lock_at new.locks n) is ∙ at_key in
            let kept = others k (eqb-false k key apart) in
            (λ i. (here i).granted && (kept i).granted) ∙ turned lock.granted (lock_at old.locks k).granted
            ∙ alone k c d (sym (ap (home_of old.by_owner) is) ∙ one) other (λ e. differ (sym e)) (sym same ∙ ap (λ (n : ℕ). (lock_at old.locks n).object.0) is)
            (conflict_swapped (lock_at old.locks k).ops _ ∙ (λ i. both_conflict (sym here i).ops (sym kept i).ops) ∙ conflict)
      ]
      | inr apart_j ↦ elim (cases_Bool (eqb k key)) [
        | inl second ↦
            let is = eqb-true k key second in
            let here = ap (λ (n : ℕ). lock_at new.locks n) is ∙ at_key in
            let kept = others j (eqb-false j key apart_j) in
            (λ i. (kept i).granted && (here i).granted) ∙ alone j d c (sym (ap (home_of old.by_owner) is) ∙ other) one differ (same ∙ ap (λ (n : ℕ). (lock_at old.locks n).object.0) is)
            ((λ i. both_conflict (sym kept i).ops (sym here i).ops) ∙ conflict)
        | inr apart_k ↦
            let first = others j (eqb-false j key apart_j) in
            let second = others k (eqb-false k key apart_k) in
            (λ i. (first i).granted && (second i).granted) ∙ stored.apart j k c d one other differ same ((λ i. both_conflict (sym first i).ops (sym second i).ops) ∙ conflict)
      ]
    ]) where
      at_key : lock_at new.locks key ≡ lock
      at_key = locks key ∙ ap (λ (b : Bool). cond b lock (lock_at old.locks key)) (eq-eqb key key refl)

      others : (k : ℕ) → (k ≡ key → ⊥) → lock_at new.locks k ≡ lock_at old.locks k
      others k apart = locks k ∙ ap (λ (b : Bool). cond b lock (lock_at old.locks k)) (ne_eqb k key apart)

      object : (k : ℕ) → (lock_at new.locks k).object.0 ≡ (lock_at old.locks k).object.0
      object k = elim (cases_Bool (eqb k key)) [
        | inl here ↦ let is = eqb-true k key here in ap (λ (n : ℕ). (lock_at new.locks n).object.0) is ∙ ap (λ (l : Lock). l.object.0) at_key ∙ ap (λ (x : Ob). x.0) on_same ∙ ap (λ (n : ℕ). (lock_at old.locks n).object.0) (sym is)
        | inr apart ↦ ap (λ (l : Lock). l.object.0) (others k (eqb-false k key apart))
      ]

      same_seat : (c d : ℕ) → Some c ≡ Some d → c ≡ d
      same_seat c d e = cc

      turned : (a b : Bool) → (a && b) ≡ (b && a)
      turned true b = sym (and_true b)
      turned false b = sym (and_false b)

-- op is granted to the lock at a key, which may move to another chain of its object
pub stored_granted : (old new : Stored) (key number : ℕ) (op : Op) → IsStored old → number_in old.objects (lock_at old.locks key).object.0 ≡ Some number
    → ((k : ℕ) → lock_at new.locks k ≡ cond (eqb k key) (with_grant op (lock_at old.locks key)) (lock_at old.locks k)) → ((k : ℕ) → is_some (get new.locks k) ≡ is_some (get old.locks k))
    → IsChangedAt key (Some (part_for number (class_of (with_op op (lock_at old.locks key).ops)))) old.by_object new.by_object → is_some (part_of old.by_object key) ≡ true → new.by_owner ≡ old.by_owner → new.objects ≡ old.objects
    → ((j c d : ℕ) → home_of old.by_owner key ≡ Some c → home_of old.by_owner j ≡ Some d → (d ≡ c → ⊥) → (lock_at old.locks j).object.0 ≡ (lock_at old.locks key).object.0
    → both_conflict (lock_at old.locks j).ops (with_op op (lock_at old.locks key).ops) ≡ true → (lock_at old.locks j).granted ≡ false)
    → IsStored new
stored_granted old new key number op stored numbered locks keys change there of_owner objects alone =
    stored_written old new key number (with_grant op (lock_at old.locks key)) stored numbered refl locks keys change there of_owner objects (λ some. some_with op (lock_at old.locks key).ops)
    (λ j c d one other differ same conflict. ap (λ (b : Bool). b && true) (alone j c d one other differ same conflict))

-- ---- the locks of a seat after a grant
chain_same_as : (old new : Stored) → new.by_owner ≡ old.by_owner → (c : ℕ) → locks_at new c ≡ map (lock_at new.locks) (chain_of old.by_owner c)
unfolding locks_at
chain_same_as old new same c = ap (λ (t : Chained). map (lock_at new.locks) (chain_of t c)) same

pub mapped : (f : Lock → Lock) (old new : Stored) (c : ℕ) → new.by_owner ≡ old.by_owner → IsConsistent old.by_owner → ((k : ℕ) → home_of old.by_owner k ≡ Some c → lock_at new.locks k ≡ f (lock_at old.locks k)) → locks_at new c ≡ map f (locks_at old c)
unfolding locks_at
mapped f old new c same sound each = chain_same_as old new same c ∙ map_same (lock_at new.locks) (λ k. f (lock_at old.locks k)) (chain_of old.by_owner c) (λ k there. each k (sound.at_home c k there)) ∙ sym (fused (chain_of old.by_owner c)) where
  fused : (keys : List ℕ) → map f (map (lock_at old.locks) keys) ≡ map (λ k. f (lock_at old.locks k)) keys
  fused [] = refl
  fused (k ∷ keys) = ap (λ l. f (lock_at old.locks k) ∷ l) (fused keys)

taken_other : (x : ℕ) (op : Op) (lock : Lock) → is_on x lock ≡ false → taken x op lock ≡ lock
unfolding taken
taken_other x op lock off = ap (λ (b : Bool). cond b (with_grant op lock) lock) off

taken_own : (x : ℕ) (op : Op) (lock : Lock) → is_on x lock ≡ true → taken x op lock ≡ with_grant op lock
unfolding taken
taken_own x op lock on = ap (λ (b : Bool). cond b (with_grant op lock) lock) on

on_it : (lock : Lock) → is_on lock.object.0 lock ≡ true
unfolding is_on
on_it lock = eq-eqb lock.object.0 lock.object.0 refl

-- a lock that is granted and carries op is as if it had been granted again
taken_again : (op : Op) (lock : Lock) → (lock.granted && has_op lock.ops op) ≡ true → with_grant op lock ≡ lock
taken_again op lock has = λ i. record { object = lock.object; ops = with_same op lock.ops (parts.1) i; granted = sym parts.0 i } where
  parts : (lock.granted ≡ true) × (has_op lock.ops op ≡ true)
  parts = and_parts lock.granted (has_op lock.ops op) has

suspended_asleep : (x : ℕ) (ops : OpSet) (lock : Lock) → ((is_on x lock && both_conflict lock.ops ops) ≡ true → lock.granted ≡ false) → suspended x ops lock ≡ lock
unfolding suspended
suspended_asleep x ops lock asleep = go (is_on x lock && both_conflict lock.ops ops) refl where
  go : (b : Bool) → (is_on x lock && both_conflict lock.ops ops) ≡ b → cond b (record lock { granted = false }) lock ≡ lock
  go true e = ap (λ (g : Bool). record lock { granted = g }) (sym (asleep e))
  go false e = refl

asleep_beside : {mine : Bool} (other : Bool) → (other && mine) ≡ false → mine ≡ true → other ≡ false
asleep_beside other none mine = sym (and_true other) ∙ ap (λ (b : Bool). other && b) (sym mine) ∙ none

suspended_object : (x : ℕ) (ops : OpSet) (lock : Lock) → (suspended x ops lock).object.0 ≡ lock.object.0
unfolding suspended
suspended_object x ops lock = go (is_on x lock && both_conflict lock.ops ops) where
  go : (b : Bool) → (cond b (record lock { granted = false }) lock).object.0 ≡ lock.object.0
  go true = refl
  go false = refl

suspended_ops : (x : ℕ) (ops : OpSet) (lock : Lock) → (suspended x ops lock).ops ≡ lock.ops
unfolding suspended
suspended_ops x ops lock = go (is_on x lock && both_conflict lock.ops ops) where
  go : (b : Bool) → (cond b (record lock { granted = false }) lock).ops ≡ lock.ops
  go true = refl
  go false = refl

awake : (x : ℕ) (ops : OpSet) (lock : Lock) → lock.object.0 ≡ x → both_conflict lock.ops ops ≡ true → (suspended x ops lock).granted ≡ false
unfolding suspended is_on
awake x ops lock on conflict = λ i. (cond (eq-eqb lock.object.0 x on i && conflict i) (record lock { granted = false }) lock).granted

module _ (store : Stored) (stored : IsStored store) (sound : IsConsistent store.by_owner) (key c : ℕ) (op : Op) (home : home_of store.by_owner key ≡ Some c) where
  -- the other locks of the seat are on other objects
  off : (k : ℕ) → home_of store.by_owner k ≡ Some c → (k ≡ key → ⊥) → is_on (lock_at store.locks key).object.0 (lock_at store.locks k) ≡ false
  off k at apart = off_from _ _ (λ same. apart (stored.single k key c at home same))

  -- nothing changes if the lock is granted and carries op
  pub own_again : ((lock_at store.locks key).granted && has_op (lock_at store.locks key).ops op) ≡ true → locks_at store c ≡ map (taken (lock_at store.locks key).object.0 op) (locks_at store c)
  own_again has = mapped (taken (lock_at store.locks key).object.0 op) store store c refl sound (λ k at. elim (cases_Bool (eqb k key)) [
    | inl here ↦ let is = eqb-true k key here in sym (ap (λ (n : ℕ). taken (lock_at store.locks key).object.0 op (lock_at store.locks n)) is ∙ taken_own _ op (lock_at store.locks key) (on_it _) ∙ taken_again op _ has ∙ ap (lock_at store.locks) (sym is))
    | inr apart ↦ sym (taken_other _ op _ (off k at (eqb-false k key apart)))
  ])

  pub others_again : ((lock_at store.locks key).granted && has_op (lock_at store.locks key).ops op) ≡ true → (d : ℕ) → (d ≡ c → ⊥)
      → locks_at store d ≡ map (suspended (lock_at store.locks key).object.0 (with_op op (lock_at store.locks key).ops)) (locks_at store d)
  others_again has d differ =
      let parts = and_parts (lock_at store.locks key).granted (has_op (lock_at store.locks key).ops op) has in
      mapped (suspended (lock_at store.locks key).object.0 (with_op op (lock_at store.locks key).ops)) store store d refl sound (λ k at. sym (suspended_asleep _ _ (lock_at store.locks k) (λ h.
      let both = and_parts _ _ h in
      asleep_beside (lock_at store.locks k).granted (stored.apart k key d c at home differ (on_to _ _ both.0) (ap (both_conflict (lock_at store.locks k).ops) (sym (with_same op _ parts.1)) ∙ both.1)) parts.0)))

  -- no lock is suspended if the lock is granted, and no lock of another conflicts with op
  pub suspended_already : (lock_at store.locks key).granted ≡ true → ((k d : ℕ) → home_of store.by_owner k ≡ Some d → (d ≡ c → ⊥) → conflicts_on (lock_at store.locks key).object.0 op (lock_at store.locks k) ≡ false)
      → IsSuspended (lock_at store.locks key).object.0 c (with_op op (lock_at store.locks key).ops) store store
  unfolding conflicts_on
  suspended_already mine alone = record {
    own = λ k at. refl;
    others = λ k d at differ. sym (suspended_asleep _ _ (lock_at store.locks k) (λ h.
        let both = and_parts _ _ h in
        let before = conflict_before op (lock_at store.locks k).ops (lock_at store.locks key).ops both.1
        (sym (ap (λ (b : Bool). b && one_conflicts (lock_at store.locks k).ops op) both.0) ∙ alone k d at differ) in
        asleep_beside (lock_at store.locks k).granted (stored.apart k key d c at home differ (on_to _ _ both.0) before) mine));
    by_owner = refl;
    objects = refl;
  }

  module _ (paused new : Stored) (pauses : IsSuspended (lock_at store.locks key).object.0 c (with_op op (lock_at store.locks key).ops) store paused)
      (locks : (k : ℕ) → lock_at new.locks k ≡ cond (eqb k key) (with_grant op (lock_at paused.locks key)) (lock_at paused.locks k)) (of_owner : new.by_owner ≡ paused.by_owner) where
    -- its own locks after a grant
    pub own_granted : locks_at new c ≡ map (taken (lock_at store.locks key).object.0 op) (locks_at store c)
    own_granted = mapped (taken (lock_at store.locks key).object.0 op) store new c (of_owner ∙ pauses.by_owner) sound (λ k at. locks k ∙ elim (cases_Bool (eqb k key)) [
      | inl here ↦
          let is = eqb-true k key here in
          ap (λ (b : Bool). cond b (with_grant op (lock_at paused.locks key)) (lock_at paused.locks k)) here
          ∙ ap (with_grant op) (pauses.own key home)
          ∙ sym (ap (λ (n : ℕ). taken (lock_at store.locks key).object.0 op (lock_at store.locks n)) is ∙ taken_own _ op (lock_at store.locks key) (on_it _))
      | inr apart ↦
          ap (λ (b : Bool). cond b (with_grant op (lock_at paused.locks key)) (lock_at paused.locks k)) apart
          ∙ pauses.own k at
          ∙ sym (taken_other _ op _ (off k at (eqb-false k key apart)))
    ])

    -- and those of others
    pub others_granted : (d : ℕ) → (d ≡ c → ⊥) → locks_at new d ≡ map (suspended (lock_at store.locks key).object.0 (with_op op (lock_at store.locks key).ops)) (locks_at store d)
    others_granted d differ = mapped (suspended (lock_at store.locks key).object.0 (with_op op (lock_at store.locks key).ops)) store new d (of_owner ∙ pauses.by_owner) sound (λ k at.
        locks k ∙ ap (λ (b : Bool). cond b (with_grant op (lock_at paused.locks key)) (lock_at paused.locks k)) (ne_eqb k key (λ is. differ (same_seat d (sym at ∙ ap (home_of store.by_owner) is ∙ home)))) ∙ pauses.others k d at differ) where
          same_seat : (d : ℕ) → Some d ≡ Some c → d ≡ c
          same_seat d e = cc

  -- once the others are suspended, none that conflicts is granted
  pub alone_after : (paused : Stored) → IsSuspended (lock_at store.locks key).object.0 c (with_op op (lock_at store.locks key).ops) store paused → (j a d : ℕ) → home_of paused.by_owner key ≡ Some a → home_of paused.by_owner j ≡ Some d → (d ≡ a → ⊥)
      → (lock_at paused.locks j).object.0 ≡ (lock_at paused.locks key).object.0 → both_conflict (lock_at paused.locks j).ops (with_op op (lock_at paused.locks key).ops) ≡ true → (lock_at paused.locks j).granted ≡ false
  alone_after paused pauses j a d mine at differ same conflict =
      let was : home_of store.by_owner j ≡ Some d = ap (λ (t : Chained). home_of t j) (sym pauses.by_owner) ∙ at in
      let seat : Some a ≡ Some c = sym mine ∙ ap (λ (t : Chained). home_of t key) pauses.by_owner ∙ home in
      let other : d ≡ c → ⊥ = λ e. differ (e ∙ sym (seat_is a seat)) in
      let is = pauses.others j d was other in
      ap (λ (l : Lock). l.granted) is ∙ awake _ _ (lock_at store.locks j)
      (sym (suspended_object _ _ (lock_at store.locks j)) ∙ ap (λ (l : Lock). l.object.0) (sym is) ∙ same ∙ ap (λ (l : Lock). l.object.0) (pauses.own key home))
      (sym (λ i. both_conflict ((ap (λ (l : Lock). l.ops) is ∙ suspended_ops _ _ (lock_at store.locks j)) i) (with_op op ((ap (λ (l : Lock). l.ops) (pauses.own key home)) i))) ∙ conflict) where
        seat_is : (a : ℕ) → Some a ≡ Some c → a ≡ c
        seat_is a e = cc

-- a new lock is granted if no lock of another conflicts with op
pub apart_new : (store : Stored) (c : ℕ) (x : Ob) (op : Op) (ops : OpSet) → ops ≡ only_op op → ((k d : ℕ) → home_of store.by_owner k ≡ Some d → (d ≡ c → ⊥) → conflicts_on x.0 op (lock_at store.locks k) ≡ false)
    → (k d : ℕ) → home_of store.by_owner k ≡ Some d → (d ≡ c → ⊥) → (lock_at store.locks k).object.0 ≡ x.0 → both_conflict (lock_at store.locks k).ops ops ≡ false
unfolding conflicts_on
apart_new store c x op ops only alone k d home differ same =
    ap (both_conflict (lock_at store.locks k).ops) only ∙ conflict_only op (lock_at store.locks k).ops
    ∙ sym (ap (λ (b : Bool). b && one_conflicts (lock_at store.locks k).ops op) (on_from x.0 (lock_at store.locks k) same)) ∙ alone k d home differ

-- what is suspended, by the lock that was read
pub pauses_as : (old new : Stored) (key c : ℕ) (op : Op) (lock : Lock) (ops : OpSet) → lock ≡ lock_at old.locks key → ops ≡ with_op op lock.ops → IsSuspended lock.object.0 c ops old new
    → IsSuspended (lock_at old.locks key).object.0 c (with_op op (lock_at old.locks key).ops) old new
pauses_as old new key c op lock ops read with pauses =
    subst (λ (l : Lock). IsSuspended l.object.0 c (with_op op l.ops) old new) read (subst (λ (o : OpSet). IsSuspended lock.object.0 c o old new) with pauses)

-- ---- a grant to a seat

pub seat_one : (c d : ℕ) → Some c ≡ Some d → c ≡ d
seat_one c d e = cc

taken_fresh : (x : Ob) (op : Op) (granted : Bool) → taken x.0 op (record (new_lock x op) { granted = granted }) ≡ new_lock x op
unfolding taken new_lock is_on
taken_fresh x op granted = ap (λ (b : Bool). cond b (with_grant op (record (new_lock x op) { granted = granted })) (record (new_lock x op) { granted = granted })) (eq-eqb x.0 x.0 refl) ∙ ap (λ (o : OpSet). record (new_lock x op) { ops = o }) (with_only op)

-- more room leaves the locks of each seat
pub grown_same : (old new : Stored) → IsGrown old new → (c : ℕ) → locks_at new c ≡ locks_at old c
unfolding locks_at
grown_same old new grown c = ap (map (lock_at new.locks)) (grown.chains c) ∙ map_same (lock_at new.locks) (lock_at old.locks) (chain_of old.by_owner c) (λ k there. same_lock new.locks old.locks k (grown.locks k))

-- and which of them conflict
pub alone_grown : (old new : Stored) (c x : ℕ) (op : Op) → IsGrown old new → ((k d : ℕ) → home_of old.by_owner k ≡ Some d → (d ≡ c → ⊥) → conflicts_on x op (lock_at old.locks k) ≡ false)
    → (k d : ℕ) → home_of new.by_owner k ≡ Some d → (d ≡ c → ⊥) → conflicts_on x op (lock_at new.locks k) ≡ false
alone_grown old new c x op grown alone k d home differ = ap (conflicts_on x op) (same_lock new.locks old.locks k (grown.locks k)) ∙ alone k d (sym (grown.homes k) ∙ home) differ

pub grown_twice : (old more most : Stored) → IsGrown old more → IsGrown more most → IsGrown old most
grown_twice old more most first second = record {
  locks = λ k. second.locks k ∙ first.locks k;
  chains = λ c. second.chains c ∙ first.chains c;
  homes = λ k. second.homes k ∙ first.homes k;
  seats = omega (arith, first.seats, second.seats);
  objects = second.objects ∙ first.objects;
}

-- a lock is added after more room is made
pub added_later : (old more new : Stored) (key c : ℕ) (lock : Lock) → IsGrown old more → IsAdded key c lock more new → IsAdded key c lock old new
added_later old more new key c lock grown added = record {
  free = sym (grown.homes key) ∙ added.free;
  added = added.added;
  locks = λ k apart. added.locks k apart ∙ same_lock more.locks old.locks k (grown.locks k);
  home = added.home;
  homes = λ k apart. added.homes k apart ∙ grown.homes k;
  chain = added.chain ∙ ap (λ l. l ++ key ∷ []) (grown.chains c);
  chains = λ d apart. added.chains d apart ∙ grown.chains d;
  seats = omega (arith, grown.seats, added.seats);
  objects = added.objects ∙ grown.objects;
}

-- the lock of a seat on an object is the one that is found
module _ (store : Stored) (stored : IsStored store) (sound : IsConsistent store.by_owner) (c : ℕ) (x : Ob) where
  pub found_here : (key : ℕ) → home_of store.by_owner key ≡ Some c → is_on x.0 (lock_at store.locks key) ≡ true → (list_any (is_on x.0) (locks_at store c) ≡ true) × (find (is_on x.0) (locks_at store c) ≡ Some (lock_at store.locks key))
  unfolding locks_at
  found_here key home on = (
    any_from (is_on x.0) (lock_at store.locks) (chain_of store.by_owner c) key (sound.listed c key home) on,
    find_key (is_on x.0) (lock_at store.locks) (chain_of store.by_owner c) key (sound.listed c key home) on
        (λ j there also. stored.single j key c (sound.at_home c j there) home (on_to x.0 _ also ∙ sym (on_to x.0 _ on))),
  )

  pub none_here : ((k : ℕ) → home_of store.by_owner k ≡ Some c → is_on x.0 (lock_at store.locks k) ≡ false) → (list_any (is_on x.0) (locks_at store c) ≡ false) × (find (is_on x.0) (locks_at store c) ≡ None)
  unfolding locks_at
  none_here none = (
    any_none (is_on x.0) (lock_at store.locks) (chain_of store.by_owner c) (λ k there. none k (sound.at_home c k there)),
    find_none (is_on x.0) (lock_at store.locks) (chain_of store.by_owner c) (λ k there. none k (sound.at_home c k there)),
  )

  module _ (new : Stored) (op : Op) where
    -- the seat has a lock on the object
    pub grants_again : (key : ℕ) → home_of store.by_owner key ≡ Some c → is_on x.0 (lock_at store.locks key) ≡ true → locks_at new c ≡ map (taken (lock_at store.locks key).object.0 op) (locks_at store c)
        → locks_at new c ≡ granted_own x op (locks_at store c)
    unfolding granted_own
    grants_again key home on own =
        own ∙ ap (λ (n : ℕ). map (taken n op) (locks_at store c)) (on_to x.0 _ on)
        ∙ sym (ap (λ (b : Bool). cond b (map (taken x.0 op) (locks_at store c)) (locks_at store c ++ new_lock x op ∷ [])) (found_here key home on).0)

    pub suspends_again : (key : ℕ) → home_of store.by_owner key ≡ Some c → is_on x.0 (lock_at store.locks key) ≡ true → (d : ℕ)
        → locks_at new d ≡ map (suspended (lock_at store.locks key).object.0 (with_op op (lock_at store.locks key).ops)) (locks_at store d)
        → locks_at new d ≡ map (suspended x.0 (ops_with op (find (is_on x.0) (locks_at store c)))) (locks_at store d)
    unfolding ops_with
    suspends_again key home on d others =
        others ∙ ap (λ (n : ℕ). map (suspended n (with_op op (lock_at store.locks key).ops)) (locks_at store d)) (on_to x.0 _ on)
        ∙ sym (ap (λ (o : Option Lock). map (suspended x.0 (ops_with op o)) (locks_at store d)) (found_here key home on).1)

    -- or it has none, and gets one
    module _ (key : ℕ) (more : Stored) (granted : Bool) (none : (k : ℕ) → home_of store.by_owner k ≡ Some c → is_on x.0 (lock_at store.locks k) ≡ false) (added : IsAdded key c (record (new_lock x op) { granted = granted }) store more) where
      mine : (lock_at more.locks key).object.0 ≡ x.0
      unfolding new_lock
      mine = ap (λ (l : Lock). l.object.0) added.added

      carried : with_op op (lock_at more.locks key).ops ≡ only_op op
      unfolding new_lock
      carried = ap (λ (l : Lock). with_op op l.ops) added.added ∙ with_only op

      one_more_lock : locks_at more c ≡ locks_at store c ++ record (new_lock x op) { granted = granted } ∷ []
      unfolding locks_at
      one_more_lock =
          ap (map (lock_at more.locks)) added.chain
          ∙ map-append (lock_at more.locks) (chain_of store.by_owner c) (key ∷ [])
          ∙ (λ i. map_same (lock_at more.locks) (lock_at store.locks) (chain_of store.by_owner c) (λ k there. added.locks k (λ is. some_is_not_none c (sym (sound.at_home c k there) ∙ ap (home_of store.by_owner) is ∙ added.free))) i ++ added.added i ∷ [])

      pub grants_first : locks_at new c ≡ map (taken (lock_at more.locks key).object.0 op) (locks_at more c) → locks_at new c ≡ granted_own x op (locks_at store c)
      unfolding granted_own
      grants_first own =
          own
          ∙ (λ i. map (taken (mine i) op) (one_more_lock i))
          ∙ map-append (taken x.0 op) (locks_at store c) _
          ∙ (λ i. untouched i ++ taken_new i ∷ [])
          ∙ sym (ap (λ (b : Bool). cond b (map (taken x.0 op) (locks_at store c)) (locks_at store c ++ new_lock x op ∷ [])) (none_here none).0) where
            untouched : map (taken x.0 op) (locks_at store c) ≡ locks_at store c
            untouched = go (locks_at store c) (none_here none).0 where
              go : (locks : List Lock) → list_any (is_on x.0) locks ≡ false → map (taken x.0 op) locks ≡ locks
              go [] h = refl
              go (l ∷ ls) h = let parts = or_parts (is_on x.0 l) (list_any (is_on x.0) ls) h in λ i. taken_other x.0 op l parts.0 i ∷ go ls parts.1 i

            taken_new : taken x.0 op (record (new_lock x op) { granted = granted }) ≡ new_lock x op
            taken_new = taken_fresh x op granted

      seat_kept : (more : Stored) (d : ℕ) → (d ≡ c → ⊥) → ((d : ℕ) → (d ≡ c → ⊥) → chain_of more.by_owner d ≡ chain_of store.by_owner d) → ((k : ℕ) → (k ≡ key → ⊥) → lock_at more.locks k ≡ lock_at store.locks k)
          → locks_at more d ≡ locks_at store d
      unfolding locks_at
      seat_kept more d apart chains locks = ap (map (lock_at more.locks)) (chains d apart) ∙ map_same (lock_at more.locks) (lock_at store.locks) (chain_of store.by_owner d) (λ k there. locks k (λ is. some_is_not_none d (sym (sound.at_home d k there) ∙ ap (home_of store.by_owner) is ∙ added.free)))

      pub suspends_first : (d : ℕ) → (d ≡ c → ⊥) → locks_at new d ≡ map (suspended (lock_at more.locks key).object.0 (with_op op (lock_at more.locks key).ops)) (locks_at more d)
          → locks_at new d ≡ map (suspended x.0 (ops_with op (find (is_on x.0) (locks_at store c)))) (locks_at store d)
      unfolding ops_with
      suspends_first d apart others =
          others
          ∙ (λ i. map (suspended (mine i) (carried i)) (kept i))
          ∙ sym (ap (λ (o : Option Lock). map (suspended x.0 (ops_with op o)) (locks_at store d)) (none_here none).1) where
            kept : locks_at more d ≡ locks_at store d
            kept = seat_kept more d apart added.chains added.locks

      -- and the others' locks are as they were
      pub alone_first : ((k d : ℕ) → home_of store.by_owner k ≡ Some d → (d ≡ c → ⊥) → conflicts_on x.0 op (lock_at store.locks k) ≡ false)
          → (k d : ℕ) → home_of more.by_owner k ≡ Some d → (d ≡ c → ⊥) → conflicts_on (lock_at more.locks key).object.0 op (lock_at more.locks k) ≡ false
      alone_first alone k d home differ =
          let apart : k ≡ key → ⊥ = λ is. differ (seat_one d c (sym home ∙ ap (home_of more.by_owner) is ∙ added.home)) in
          (λ i. conflicts_on (mine i) op (added.locks k apart i)) ∙ alone k d (sym (added.homes k apart) ∙ home) differ

-- ---- one lock of a seat is dropped
module _ (old new : Stored) (key c : ℕ) (sound : IsConsistent old.by_owner) (dropped : IsDropped key old new) (home : home_of old.by_owner key ≡ Some c) where
  pub others_kept : (d : ℕ) → (d ≡ c → ⊥) → locks_at new d ≡ locks_at old d
  unfolding locks_at
  others_kept d apart =
      let absent = listed_once old.by_owner sound key c d home apart in
      ap (map (lock_at new.locks)) (dropped.chains d ∙ without_unlisted key (chain_of old.by_owner d) absent)
      ∙ map_same (lock_at new.locks) (lock_at old.locks) (chain_of old.by_owner d) (λ k there. dropped.locks k (λ is. both_ways (lists (chain_of old.by_owner d) key) absent (ap (lists (chain_of old.by_owner d)) (sym is) ∙ there)))

  pub home_kept : (k d : ℕ) → home_of new.by_owner k ≡ Some d → home_of old.by_owner k ≡ Some d
  home_kept k d at = elim (cases_Bool (eqb k key)) [
    | inl here ↦ absurd (some_is_not_none d (sym at ∙ dropped.homes k ∙ ap (λ (b : Bool). cond b None (home_of old.by_owner k)) here))
    | inr apart ↦ sym (dropped.homes k ∙ ap (λ (b : Bool). cond b None (home_of old.by_owner k)) apart) ∙ at
  ]

  pub shorter : length (chain_of new.by_owner c) < length (chain_of old.by_owner c)
  shorter = omega (arith, ap (λ (l : List ℕ). length l) (dropped.chains c ∙ chain_without_key key c old.by_owner sound home), ap (λ (l : List ℕ). length l) (chain_at_key key c old.by_owner sound home), length-append (ahead key (chain_of old.by_owner c)) (behind key (chain_of old.by_owner c)), length-append (ahead key (chain_of old.by_owner c)) (key ∷ behind key (chain_of old.by_owner c)))

pub no_first : (keys : List ℕ) → first_of keys ≡ None → keys ≡ []
no_first [] none = refl
no_first (k ∷ keys) none = absurd (some_is_not_none k none)
