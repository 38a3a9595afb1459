-- Locks in a slab and its chains, and what a change of them leaves.
use Rattle.std.proofs.Common.{◌≡◌, ℕ, ◌≤◌, ◌<◌, Bool, true, false, eqb, cond, ◌&&◌, List, [], length, Option, Some, None, is_some, refl, sym, ap, subst, ◌∙◌, inl, inr, arith}
use Rattle.std.specs.Prelude.{unwrap_or, slice_index_or}
use Rattle.std.proofs.Math.Bool.{and_comm}
use Rattle.std.proofs.lemmas.Bool.{eqb-true, eqb-false, eq-eqb, cases_Bool, both_ways}
use Rattle.slab.specs.Slab.{Slab, get, with_value, Updates, ContainsKey}
use Rattle.slab.proofs.SlabLemmas.{Updates-with_value}
use Rattle.asset_names.specs.declared.names.Ob.{Ob}
use Rattle.asset_names.specs.declared.operations.Op.{Op}
use Rattle.asset_names.specs.OpSets.{OpSet, with_op}
use Rattle.asset_names.proofs.Common.{some_is_not_none}
use Rattle.asset_chains.specs.Chained.{Chained, home_of}
use Rattle.asset_chains.proofs.Laws.{IsPushed}
use Rattle.asset_lists.specs.declared.part.Part.{Part}
use Rattle.asset_lists.specs.declared.part.Section.{Section}
use Rattle.asset_lists.specs.declared.part.Section.TheVariants.{Front}
use Rattle.asset_lists.specs.Parted.{Parted, part_of, advanced, IsChangedAt}
use Rattle.asset_lists.proofs.Laws.{no_part_of}
use Rattle.asset_chains.proofs.SoundLemmas.{no_home_of}
use Rattle.asset_lock_store.specs.declared.lock.Lock.{Lock}
use Rattle.asset_lock_store.specs.LockRules.{is_on, both_conflict, is_some_op, paused}
use Rattle.asset_names.specs.Numbered.{number_in}
use Rattle.asset_names.proofs.NumberLemmas.{number_reads}
use Rattle.asset_lock_store.specs.Stored.{Stored, no_lock, lock_at, part_for, class_of, IsPlaced, IsStored}
use Rattle.asset_lock_store.proofs.OpsLemmas.{conflict_swapped}

-- ---- reads and writes of the slab
pub read_lock : (locks : Slab Lock) (k : ℕ) (lock : Lock) → get locks k ≡ Some lock → lock_at locks k ≡ lock
unfolding lock_at
read_lock locks k lock there = ap (λ (o : Option Lock). unwrap_or o no_lock) there

pub read_none : (locks : Slab Lock) (k : ℕ) → get locks k ≡ None → lock_at locks k ≡ no_lock
unfolding lock_at
read_none locks k none = ap (λ (o : Option Lock). unwrap_or o no_lock) none

pub same_lock : (a b : Slab Lock) (k : ℕ) → get a k ≡ get b k → lock_at a k ≡ lock_at b k
unfolding lock_at
same_lock a b k same = ap (λ (o : Option Lock). unwrap_or o no_lock) same

-- after an update of one key each other key reads as it did
pub updated : (old new : Slab Lock) (key : ℕ) (slot : Option Lock) → Updates old new key slot → (k : ℕ) → lock_at new k ≡ cond (eqb k key) (unwrap_or slot no_lock) (lock_at old k)
unfolding lock_at
updated old new key slot change k = elim (cases_Bool (eqb k key)) [
  | inl here ↦ rw here (ap (λ (o : Option Lock). unwrap_or o no_lock) (ap (get new) (eqb-true k key here) ∙ change.changed))
  | inr apart ↦ rw apart (ap (λ (o : Option Lock). unwrap_or o no_lock) (change.others k (eqb-false k key apart)))
]

-- a lock is written over another
pub written : (locks : Slab Lock) (key : ℕ) (old new : Lock) → get locks key ≡ Some old → (k : ℕ) → lock_at (with_value locks key new) k ≡ cond (eqb k key) new (lock_at locks k)
written locks key old new there k = updated locks (with_value locks key new) key (Some new) (Updates-with_value locks key new (contains there)) k where
  contains : get locks key ≡ Some old → ContainsKey locks key
  contains there = search there

-- a lock that conflicts is suspended, and another is not
pub paused_conflict : (ops : OpSet) (lock : Lock) → both_conflict lock.ops ops ≡ true → record lock { granted = false } ≡ paused ops lock
unfolding paused
paused_conflict ops lock conflicts = ap (λ (b : Bool). cond b (record lock { granted = false }) lock) (sym conflicts)

pub paused_apart : (ops : OpSet) (lock : Lock) → both_conflict lock.ops ops ≡ false → lock ≡ paused ops lock
unfolding paused
paused_apart ops lock apart = ap (λ (b : Bool). cond b (record lock { granted = false }) lock) (sym apart)

-- the lock at a key is suspended if it conflicts
pub suspended_some : (locks : Slab Lock) (key : ℕ) (ops : OpSet) (lock now : Lock) → get locks key ≡ Some lock → now ≡ paused ops lock → (k : ℕ) → lock_at (with_value locks key now) k ≡ cond (eqb k key) (paused ops (lock_at locks k)) (lock_at locks k)
suspended_some locks key ops lock now there is k = written locks key lock now there k ∙ elim (cases_Bool (eqb k key)) [
  | inl here ↦ ap (λ (b : Bool). cond b now (lock_at locks k)) here ∙ is ∙ ap (paused ops) (sym (ap (lock_at locks) (eqb-true k key here) ∙ read_lock locks key lock there)) ∙ sym (ap (λ (b : Bool). cond b (paused ops (lock_at locks k)) (lock_at locks k)) here)
  | inr apart ↦ ap (λ (b : Bool). cond b now (lock_at locks k)) apart ∙ sym (ap (λ (b : Bool). cond b (paused ops (lock_at locks k)) (lock_at locks k)) apart)
]

pub suspended_none : (locks : Slab Lock) (key : ℕ) (ops : OpSet) → get locks key ≡ None → (k : ℕ) → lock_at locks k ≡ cond (eqb k key) (paused ops (lock_at locks k)) (lock_at locks k)
unfolding paused no_lock
suspended_none locks key ops none k = elim (cases_Bool (eqb k key)) [
  | inl here ↦ let is = ap (lock_at locks) (eqb-true k key here) ∙ read_none locks key none in is ∙ go (both_conflict no_lock.ops ops) ∙ ap (paused ops) (sym is) ∙ sym (ap (λ (b : Bool). cond b (paused ops (lock_at locks k)) (lock_at locks k)) here)
  | inr apart ↦ sym (ap (λ (b : Bool). cond b (paused ops (lock_at locks k)) (lock_at locks k)) apart)
] where
  go : (b : Bool) → no_lock ≡ cond b (record no_lock { granted = false }) no_lock
  go true = refl
  go false = refl

-- op is granted to the lock at a key
pub granted_some : (locks : Slab Lock) (key : ℕ) (op : Op) (lock : Lock) → get locks key ≡ Some lock → (k : ℕ)
    → lock_at (with_value locks key (record lock { ops = with_op op lock.ops; granted = true })) k ≡ cond (eqb k key) (record (lock_at locks key) { ops = with_op op (lock_at locks key).ops; granted = true }) (lock_at locks k)
granted_some locks key op lock there k =
    written locks key lock (record lock { ops = with_op op lock.ops; granted = true }) there k
    ∙ ap (λ (l : Lock). cond (eqb k key) (record l { ops = with_op op l.ops; granted = true }) (lock_at locks k)) (sym (read_lock locks key lock there))

-- ---- the locks stay as they are stored
pub placed_as : (old new : Stored) (k : ℕ) → IsPlaced old k → ((x n : ℕ) → number_in old.objects x ≡ Some n → number_in new.objects x ≡ Some n) → lock_at new.locks k ≡ lock_at old.locks k
    → part_of new.by_object k ≡ part_of old.by_object k → IsPlaced new k
placed_as old new k placed numbers lock part = record {
  number = placed.number;
  numbered = ap (λ (l : Lock). number_in new.objects l.object.0) lock ∙ numbers _ _ placed.numbered;
  part = part ∙ placed.part ∙ ap (λ (l : Lock). Some (part_for placed.number (class_of l.ops))) (sym lock);
}

-- more room, or one more object with a number
pub stored_grown : (old new : Stored) → IsStored old → ((k : ℕ) → get new.locks k ≡ get old.locks k) → ((k : ℕ) → part_of new.by_object k ≡ part_of old.by_object k)
    → ((k : ℕ) → home_of new.by_owner k ≡ home_of old.by_owner k) → ((x n : ℕ) → number_in old.objects x ≡ Some n → number_in new.objects x ≡ Some n)
    → length new.objects ≤ new.by_object.lists → IsStored new
stored_grown old new stored locks of_object of_owner numbers lists = record {
  held = λ k. ap is_some (of_owner k) ∙ stored.held k ∙ sym (ap is_some (locks k));
  listed = λ k. ap is_some (of_object k) ∙ stored.listed k ∙ sym (ap is_some (locks k));
  placed = λ k c home. placed_as old new k (stored.placed k c (sym (of_owner k) ∙ home)) numbers (same k) (of_object k);
  lists = lists;
  single = λ j k c one other same_object. stored.single j k c (sym (of_owner j) ∙ one) (sym (of_owner k) ∙ other) (sym (object j) ∙ same_object ∙ object k);
  carry = λ k c home. ap (λ (l : Lock). is_some_op l.ops) (same k) ∙ stored.carry k c (sym (of_owner k) ∙ home);
  apart = λ j k c d one other differ same_object conflict.
      (λ i. (same j i).granted && (same k i).granted)
      ∙ stored.apart j k c d (sym (of_owner j) ∙ one) (sym (of_owner k) ∙ other) differ (sym (object j) ∙ same_object ∙ object k) ((λ i. both_conflict (sym (same j) i).ops (sym (same k) i).ops) ∙ conflict);
} where
  same : (k : ℕ) → lock_at new.locks k ≡ lock_at old.locks k
  same k = same_lock new.locks old.locks k (locks k)

  object : (k : ℕ) → (lock_at new.locks k).object.0 ≡ (lock_at old.locks k).object.0
  object k = ap (λ (l : Lock). l.object.0) (same k)

-- one lock is gone from the slab, from its object's list and from its owner's chain
pub stored_dropped : (old new : Stored) (key : ℕ) → IsStored old → Updates old.locks new.locks key None → IsChangedAt key None old.by_object new.by_object
    → ((k : ℕ) → home_of new.by_owner k ≡ cond (eqb k key) None (home_of old.by_owner k)) → new.objects ≡ old.objects → IsStored new
stored_dropped old new key stored gone of_object of_owner objects = record {
  held = λ k. elim (cases_Bool (eqb k key)) [
    | inl here ↦ ap is_some (of_owner k ∙ ap (λ b. cond b None (home_of old.by_owner k)) here) ∙ sym (ap is_some (empty k here))
    | inr apart ↦ ap is_some (of_owner k ∙ ap (λ b. cond b None (home_of old.by_owner k)) apart) ∙ stored.held k ∙ sym (ap is_some (gone.others k (eqb-false k key apart)))
  ];
  listed = λ k. elim (cases_Bool (eqb k key)) [
    | inl here ↦ ap is_some (ap (part_of new.by_object) (eqb-true k key here) ∙ of_object.here) ∙ sym (ap is_some (empty k here))
    | inr apart ↦ ap is_some (of_object.others k (eqb-false k key apart)) ∙ stored.listed k ∙ sym (ap is_some (gone.others k (eqb-false k key apart)))
  ];
  placed = λ k c home.
      let was = still k c home in
      placed_as old new k (stored.placed k c was.1) (λ x n e. ap (λ (l : List Ob). number_in l x) objects ∙ e) (same k was.0)
      (of_object.others k was.0);
  lists = omega (arith, stored.lists, of_object.same_lists, ap (λ (l : List Ob). length l) objects);
  single = λ j k c one other same_object.
      let first = still j c one in
      let second = still k c other in
      stored.single j k c first.1 second.1 (sym (object j first.0) ∙ same_object ∙ object k second.0);
  carry = λ k c home.
      let was = still k c home in
      ap (λ (l : Lock). is_some_op l.ops) (same k was.0) ∙ stored.carry k c was.1;
  apart = λ j k c d one other differ same_object conflict.
      let first = still j c one in
      let second = still k d other in
      (λ i. (same j first.0 i).granted && (same k second.0 i).granted)
      ∙ stored.apart j k c d first.1 second.1 differ (sym (object j first.0) ∙ same_object ∙ object k second.0) ((λ i. both_conflict (sym (same j first.0) i).ops (sym (same k second.0) i).ops) ∙ conflict);
} where
  empty : (k : ℕ) → eqb k key ≡ true → get new.locks k ≡ None
  empty k here = ap (get new.locks) (eqb-true k key here) ∙ gone.changed

  still : (k c : ℕ) → home_of new.by_owner k ≡ Some c → (k ≡ key → ⊥) × (home_of old.by_owner k ≡ Some c)
  still k c home = elim (cases_Bool (eqb k key)) [
    | inl here ↦ absurd (some_is_not_none c (sym home ∙ of_owner k ∙ ap (λ b. cond b None (home_of old.by_owner k)) here))
    | inr apart ↦ (eqb-false k key apart, sym (of_owner k ∙ ap (λ b. cond b None (home_of old.by_owner k)) apart) ∙ home)
  ]

  same : (k : ℕ) → (k ≡ key → ⊥) → lock_at new.locks k ≡ lock_at old.locks k
  same k apart = same_lock new.locks old.locks k (gone.others k apart)

  object : (k : ℕ) → (k ≡ key → ⊥) → (lock_at new.locks k).object.0 ≡ (lock_at old.locks k).object.0
  object k apart = ap (λ (l : Lock). l.object.0) (same k apart)

-- one more lock is in the slab, in its object's list and in its owner's chain
pub stored_added : (old new : Stored) (key c number : ℕ) (lock : Lock) → IsStored old → get old.locks key ≡ None → Updates old.locks new.locks key (Some lock)
    → IsChangedAt key (Some (part_for number (class_of lock.ops))) old.by_object new.by_object → IsPushed c key old.by_owner new.by_owner → new.objects ≡ old.objects → number_in old.objects lock.object.0 ≡ Some number
    → ((k : ℕ) → home_of old.by_owner k ≡ Some c → is_on lock.object.0 (lock_at old.locks k) ≡ false)
    → (lock.granted ≡ true → (k d : ℕ) → home_of old.by_owner k ≡ Some d → (d ≡ c → ⊥) → (lock_at old.locks k).object.0 ≡ lock.object.0 → both_conflict (lock_at old.locks k).ops lock.ops ≡ false) → is_some_op lock.ops ≡ true → IsStored new
unfolding is_on
stored_added old new key c number lock stored vacant added of_object of_owner objects numbered none alone some = record {
  held = λ k. elim (cases_Bool (eqb k key)) [
    | inl here ↦ ap is_some (ap (home_of new.by_owner) (eqb-true k key here) ∙ of_owner.home) ∙ sym (ap is_some (ap (get new.locks) (eqb-true k key here) ∙ added.changed))
    | inr apart ↦ ap is_some (of_owner.homes k (eqb-false k key apart)) ∙ stored.held k ∙ sym (ap is_some (added.others k (eqb-false k key apart)))
  ];
  listed = λ k. elim (cases_Bool (eqb k key)) [
    | inl here ↦ ap is_some (ap (part_of new.by_object) (eqb-true k key here) ∙ of_object.here) ∙ sym (ap is_some (ap (get new.locks) (eqb-true k key here) ∙ added.changed))
    | inr apart ↦ ap is_some (of_object.others k (eqb-false k key apart)) ∙ stored.listed k ∙ sym (ap is_some (added.others k (eqb-false k key apart)))
  ];
  placed = λ k d home. elim (cases_Bool (eqb k key)) [
    | inl here ↦ subst (IsPlaced new) (sym (eqb-true k key here)) (record {
      number = number;
      numbered = ap (λ (l : Lock). number_in new.objects l.object.0) at_key ∙ ap (λ (l : List Ob). number_in l lock.object.0) objects ∙ numbered;
      part = of_object.here ∙ ap (λ (l : Lock). Some (part_for number (class_of l.ops))) (sym at_key);
    })
    | inr apart ↦
        let differ = eqb-false k key apart in
        placed_as old new k (stored.placed k d (sym (of_owner.homes k differ) ∙ home)) (λ x n e. ap (λ (l : List Ob). number_in l x) objects ∙ e) (same k differ) (of_object.others k differ)
  ];
  lists = omega (arith, stored.lists, of_object.same_lists, ap (λ (l : List Ob). length l) objects);
  single = λ j k d one other same_object. elim (cases_Bool (eqb j key)) [
    | inl first ↦ elim (cases_Bool (eqb k key)) [
      | inl second ↦ eqb-true j key first ∙ sym (eqb-true k key second)
      | inr apart ↦ absurd (new_alone k d (eqb-false k key apart) (sym one ∙ ap (home_of new.by_owner) (eqb-true j key first)) other (sym (ap (λ (n : ℕ). (lock_at new.locks n).object.0) (eqb-true j key first)) ∙ same_object))
    ]
    | inr differ ↦ elim (cases_Bool (eqb k key)) [
      | inl second ↦ absurd (new_alone j d (eqb-false j key differ) (sym other ∙ ap (home_of new.by_owner) (eqb-true k key second)) one (sym (ap (λ (n : ℕ). (lock_at new.locks n).object.0) (eqb-true k key second)) ∙ sym same_object))
      | inr apart ↦
          let first = eqb-false j key differ in
          let second = eqb-false k key apart in
          stored.single j k d (sym (of_owner.homes j first) ∙ one) (sym (of_owner.homes k second) ∙ other) (sym (object j first) ∙ same_object ∙ object k second)
    ]
  ];
  carry = λ k d home. elim (cases_Bool (eqb k key)) [
    | inl here ↦ ap (λ (n : ℕ). is_some_op (lock_at new.locks n).ops) (eqb-true k key here) ∙ ap (λ (l : Lock). is_some_op l.ops) at_key ∙ some
    | inr apart ↦
        let differ = eqb-false k key apart in
        ap (λ (l : Lock). is_some_op l.ops) (same k differ) ∙ stored.carry k d (sym (of_owner.homes k differ) ∙ home)
  ];
  apart = λ j k d e one other differ same_object conflict. elim (cases_Bool (eqb j key)) [
    | inl first ↦
        let is = ap (lock_at new.locks) (eqb-true j key first) ∙ at_key in
        ap (λ (l : Lock). l.granted && (lock_at new.locks k).granted) is
        ∙ new_apart k d e differ (sym (ap (home_of new.by_owner) (eqb-true j key first)) ∙ one) other (sym same_object ∙ ap (λ (l : Lock). l.object.0) is)
        (conflict_swapped (lock_at new.locks k).ops lock.ops ∙ ap (λ (l : Lock). both_conflict l.ops (lock_at new.locks k).ops) (sym is) ∙ conflict)
    | inr apart_j ↦ elim (cases_Bool (eqb k key)) [
      | inl second ↦
          let is = ap (lock_at new.locks) (eqb-true k key second) ∙ at_key in
          and_comm (lock_at new.locks j).granted (lock_at new.locks k).granted
          ∙ ap (λ (l : Lock). l.granted && (lock_at new.locks j).granted) is
          ∙ new_apart j e d (λ same. differ (sym same)) (sym (ap (home_of new.by_owner) (eqb-true k key second)) ∙ other) one (same_object ∙ ap (λ (l : Lock). l.object.0) is)
          (ap (λ (l : Lock). both_conflict (lock_at new.locks j).ops l.ops) (sym is) ∙ conflict)
      | inr apart_k ↦
          let first = eqb-false j key apart_j in
          let second = eqb-false k key apart_k in
          (λ i. (same j first i).granted && (same k second i).granted)
          ∙ stored.apart j k d e (sym (of_owner.homes j first) ∙ one) (sym (of_owner.homes k second) ∙ other) differ (sym (object j first) ∙ same_object ∙ object k second)
          ((λ i. both_conflict (sym (same j first) i).ops (sym (same k second) i).ops) ∙ conflict)
    ]
  ];
} where
  at_key : lock_at new.locks key ≡ lock
  at_key = read_lock new.locks key lock added.changed

  same : (k : ℕ) → (k ≡ key → ⊥) → lock_at new.locks k ≡ lock_at old.locks k
  same k apart = same_lock new.locks old.locks k (added.others k apart)

  object : (k : ℕ) → (k ≡ key → ⊥) → (lock_at new.locks k).object.0 ≡ (lock_at old.locks k).object.0
  object k apart = ap (λ (l : Lock). l.object.0) (same k apart)

  one_seat : (d e : ℕ) → Some d ≡ Some e → d ≡ e
  one_seat d e same = cc

  -- a lock of another that conflicts is not granted if the new one is
  new_apart : (k d e : ℕ) → (d ≡ e → ⊥) → home_of new.by_owner key ≡ Some d → home_of new.by_owner k ≡ Some e → (lock_at new.locks k).object.0 ≡ lock.object.0 → both_conflict (lock_at new.locks k).ops lock.ops ≡ true
      → (lock.granted && (lock_at new.locks k).granted) ≡ false
  new_apart k d e apart mine home same_object conflict = go lock.granted refl where
    differ : k ≡ key → ⊥
    differ is = apart (one_seat d e (sym mine ∙ ap (home_of new.by_owner) (sym is) ∙ home))

    go : (b : Bool) → lock.granted ≡ b → (b && (lock_at new.locks k).granted) ≡ false
    go false g = refl
    go true g = absurd (both_ways (both_conflict (lock_at old.locks k).ops lock.ops)
        (alone g k e (sym (of_owner.homes k differ) ∙ home) (λ is. apart (one_seat d c (sym mine ∙ of_owner.home) ∙ sym is)) (sym (object k differ) ∙ same_object))
        (ap (λ (l : Lock). both_conflict l.ops lock.ops) (sym (same k differ)) ∙ conflict))

  -- the seat has no other lock on the object
  new_alone : (k d : ℕ) → (k ≡ key → ⊥) → Some d ≡ home_of new.by_owner key → home_of new.by_owner k ≡ Some d → (lock_at new.locks key).object.0 ≡ (lock_at new.locks k).object.0 → ⊥
  new_alone k d differ mine home same_object =
      let seat : home_of old.by_owner k ≡ Some c = sym (of_owner.homes k differ) ∙ home ∙ mine ∙ of_owner.home in
      both_ways (eqb (lock_at old.locks k).object.0 lock.object.0) (none k seat) (eq-eqb _ _ (sym (object k differ) ∙ sym same_object ∙ ap (λ (l : Lock). l.object.0) at_key))

-- locks change where they are
pub stored_changed : (old new : Stored) → IsStored old → ((k : ℕ) → is_some (get new.locks k) ≡ is_some (get old.locks k)) → ((k : ℕ) → is_some (part_of new.by_object k) ≡ is_some (part_of old.by_object k))
    → new.by_owner ≡ old.by_owner → length new.objects ≤ new.by_object.lists → ((k c : ℕ) → home_of old.by_owner k ≡ Some c → IsPlaced new k)
    → ((k : ℕ) → (lock_at new.locks k).object.0 ≡ (lock_at old.locks k).object.0)
    → ((k c : ℕ) → home_of old.by_owner k ≡ Some c → is_some_op (lock_at new.locks k).ops ≡ true)
    → ((j k c d : ℕ) → home_of old.by_owner j ≡ Some c → home_of old.by_owner k ≡ Some d → (c ≡ d → ⊥) → (lock_at old.locks j).object.0 ≡ (lock_at old.locks k).object.0
    → both_conflict (lock_at new.locks j).ops (lock_at new.locks k).ops ≡ true → ((lock_at new.locks j).granted && (lock_at new.locks k).granted) ≡ false)
    → IsStored new
stored_changed old new stored keys of_object of_owner lists placed object carry apart = record {
  held = λ k. ap is_some (home k) ∙ stored.held k ∙ sym (keys k);
  listed = λ k. of_object k ∙ stored.listed k ∙ sym (keys k);
  placed = λ k c at. placed k c (sym (home k) ∙ at);
  lists = lists;
  single = λ j k c one other same_object. stored.single j k c (sym (home j) ∙ one) (sym (home k) ∙ other) (sym (object j) ∙ same_object ∙ object k);
  carry = λ k c at. carry k c (sym (home k) ∙ at);
  apart = λ j k c d one other differ same_object conflict. apart j k c d (sym (home j) ∙ one) (sym (home k) ∙ other) differ (sym (object j) ∙ same_object ∙ object k) conflict;
} where
  home : (k : ℕ) → home_of new.by_owner k ≡ home_of old.by_owner k
  home k = ap (λ (table : Chained). home_of table k) of_owner

-- nothing is stored, at first
pub stored_nothing : (store : Stored) → store.locks.slots ≡ [] → store.objects ≡ [] → store.by_object.parts ≡ [] → store.by_owner.homes ≡ [] → IsStored store
stored_nothing store locks objects of_object of_owner = record {
  held = λ k. ap is_some (no_home k) ∙ sym (ap is_some (no_lock_at k));
  listed = λ k. ap is_some (no_part k) ∙ sym (ap is_some (no_lock_at k));
  placed = λ k c home. absurd (some_is_not_none c (sym home ∙ no_home k));
  lists = omega (arith, ap (λ (l : List Ob). length l) objects);
  single = λ j k c one other same. absurd (some_is_not_none c (sym one ∙ no_home j));
  carry = λ k c home. absurd (some_is_not_none c (sym home ∙ no_home k));
  apart = λ j k c d one other differ same conflict. absurd (some_is_not_none c (sym one ∙ no_home j));
} where
  no_home : (k : ℕ) → home_of store.by_owner k ≡ None
  no_home = no_home_of store.by_owner of_owner

  no_part : (k : ℕ) → part_of store.by_object k ≡ None
  no_part = no_part_of store.by_object of_object

  no_lock_at : (k : ℕ) → get store.locks k ≡ None
  no_lock_at k = ap (λ (l : List (Option Lock)). slice_index_or l k None) locks

-- the list of an object is among the lists
pub list_there : (store : Stored) → IsStored store → (x n : ℕ) → number_in store.objects x ≡ Some n → n < store.by_object.lists
list_there store stored x n is = omega (arith, (number_reads store.objects x n is).0, stored.lists)

-- two parts are of one object, and one part of its list
pub parts_one : (n m : ℕ) (w v : Section) → part_for n w ≡ part_for m v → (n ≡ m) × (w ≡ v)
unfolding part_for
parts_one n m w v e = (ap (λ (p : Part). p.list) e, ap (λ (p : Part). p.section) e)

-- the number of the object, by the part of a lock on it
pub list_of : (n : ℕ) (w : Section) → (part_for n w).list ≡ n
unfolding part_for
list_of n w = refl

-- a lock that is moved to the front part
pub part_advanced : (table : Parted) (k n : ℕ) (w : Section) → part_of table k ≡ Some (part_for n w) → advanced (part_of table k) ≡ Some (part_for n Front)
unfolding advanced part_for
part_advanced table k n w is = ap advanced is
