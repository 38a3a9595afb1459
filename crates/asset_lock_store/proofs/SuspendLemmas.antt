-- The locks on an object that conflict with one that is granted.
use Rattle.std.proofs.Common.{◌≡◌, ℕ, Bool, true, false, eqb, cond, ◌&&◌, ◌||◌, ◌≤◌, List, length, Option, Some, is_some, refl, sym, ap, subst, ◌∙◌, inl, inr, arith}
use Rattle.std.proofs.lemmas.Bool.{eqb-true, eqb-false, eq-eqb, ne_eqb, true≢false, cases_Bool, and_parts, or_parts, both_ways}
use Rattle.slab.specs.Slab.{get}
use Rattle.asset_names.specs.OpSets.{OpSet}
use Rattle.asset_names.proofs.Common.{and_false, and_true}
use Rattle.asset_chains.specs.Chained.{home_of, lists}
use Rattle.asset_lists.specs.declared.part.Part.{Part}
use Rattle.asset_lists.specs.declared.part.Section.{Section}
use Rattle.asset_lists.specs.declared.part.Section.TheVariants.{Front, Middle, Back}
use Rattle.asset_lists.specs.Parted.{Parted, part_of, is_up_to, beside, AreKeys, AreKeysUpTo}
use Rattle.asset_lock_store.specs.declared.lock.Lock.{Lock}
use Rattle.asset_lock_store.specs.LockRules.{is_on, both_conflict, excludes, suspended, paused, is_some_op}
use Rattle.asset_names.specs.Numbered.{number_in}
use Rattle.asset_lock_store.specs.Stored.{Stored, lock_at, part_for, same_section, is_in, is_others, class_of, meets, IsStored, IsSuspended}
use Rattle.asset_names.proofs.NumberLemmas.{number_one}
use Rattle.asset_lock_store.proofs.StoreLemmas.{stored_changed, parts_one}
use Rattle.asset_lock_store.proofs.WalkLemmas.{passed_lock, others_own, others_from}
use Rattle.asset_lock_store.proofs.ListLemmas.{twice_passed, at_lists, lists_at, lists_in}
use Rattle.asset_lock_store.proofs.LockLemmas.{on_to, on_from}
use Rattle.asset_lock_store.proofs.OpsLemmas.{adder_conflicts, reader_conflicts}

-- ---- which part of an object's list has a lock
module _ (store : Stored) (stored : IsStored store) (x number : ℕ) (numbered : number_in store.objects x ≡ Some number) where
  -- a key in a part of the object has a lock on it
  pub on_object : (k c : ℕ) (w : Section) → home_of store.by_owner k ≡ Some c → part_of store.by_object k ≡ Some (part_for number w) → ((lock_at store.locks k).object.0 ≡ x) × (class_of (lock_at store.locks k).ops ≡ w)
  on_object k c w home at =
      let placed = stored.placed k c home in
      let same : Some (part_for placed.number (class_of (lock_at store.locks k).ops)) ≡ Some (part_for number w) = sym placed.part ∙ at in
      let one = parts_one placed.number number (class_of (lock_at store.locks k).ops) w (cc) in
      (number_one store.objects _ x number (placed.numbered ∙ ap Some one.0) numbered, one.1)

  -- a lock on the object is in the part that its operations say
  pub in_list : (k c : ℕ) → home_of store.by_owner k ≡ Some c → (lock_at store.locks k).object.0 ≡ x → part_of store.by_object k ≡ Some (part_for number (class_of (lock_at store.locks k).ops))
  in_list k c home on =
      let placed = stored.placed k c home in
      let same : Some placed.number ≡ Some number = sym placed.numbered ∙ ap (number_in store.objects) on ∙ numbered in
      let is : placed.number ≡ number = cc in
      placed.part ∙ ap (λ (n : ℕ). Some (part_for n (class_of (lock_at store.locks k).ops))) is

  -- whether a part of the object has a lock
  pub part_has : (k c : ℕ) (w : Section) → home_of store.by_owner k ≡ Some c → is_in (part_for number w) (part_of store.by_object k) ≡ (is_on x (lock_at store.locks k) && same_section w (class_of (lock_at store.locks k).ops))
  unfolding is_on part_for
  part_has k c w home = elim (cases_Bool (eqb (lock_at store.locks k).object.0 x)) [
    | inl on ↦
        ap (is_in (part_for number w)) (in_list k c home (eqb-true _ _ on))
        ∙ ap (λ (b : Bool). b && same_section w (class_of (lock_at store.locks k).ops)) (eq-eqb number number refl ∙ sym on)
    | inr off ↦
        let placed = stored.placed k c home in
        ap (is_in (part_for number w)) placed.part
        ∙ ap (λ (b : Bool). b && same_section w (class_of (lock_at store.locks k).ops))
        (ne_eqb placed.number number (λ same. eqb-false _ _ off (number_one store.objects _ x number (placed.numbered ∙ ap Some same) numbered)) ∙ sym off)
  ]

-- ---- locks that are suspended
pub passed_object : (ops : OpSet) (b : Bool) (lock : Lock) → (passed_lock ops b lock).object ≡ lock.object
unfolding paused
passed_object ops true lock = go (both_conflict lock.ops ops) where
  go : (c : Bool) → (cond c (record lock { granted = false }) lock).object ≡ lock.object
  go true = refl
  go false = refl
passed_object ops false lock = refl

pub passed_ops : (ops : OpSet) (b : Bool) (lock : Lock) → (passed_lock ops b lock).ops ≡ lock.ops
unfolding paused
passed_ops ops true lock = go (both_conflict lock.ops ops) where
  go : (c : Bool) → (cond c (record lock { granted = false }) lock).ops ≡ lock.ops
  go true = refl
  go false = refl
passed_ops ops false lock = refl

passed_granted : (ops : OpSet) (b : Bool) (lock : Lock) → (passed_lock ops b lock).granted ≡ true → lock.granted ≡ true
unfolding paused
passed_granted ops true lock h = go (both_conflict lock.ops ops) h where
  go : (c : Bool) → (cond c (record lock { granted = false }) lock).granted ≡ true → lock.granted ≡ true
  go true h = absurd (true≢false (sym h))
  go false h = h
passed_granted ops false lock h = h

fewer_granted : (a b p q : Bool) → (p ≡ true → a ≡ true) → (q ≡ true → b ≡ true) → (a && b) ≡ false → (p && q) ≡ false
fewer_granted a b true true first second none = absurd (both_ways (a && b) none (λ i. first refl i && second refl i))
fewer_granted a b true false first second none = refl
fewer_granted a b false q first second none = refl

-- some locks are suspended, and stay where they are
pub stored_suspended : (old new : Stored) (carried : OpSet) (which : ℕ → Bool) → IsStored old → ((k : ℕ) → lock_at new.locks k ≡ passed_lock carried (which k) (lock_at old.locks k)) → ((k : ℕ) → is_some (get new.locks k) ≡ is_some (get old.locks k))
    → new.by_object ≡ old.by_object → new.by_owner ≡ old.by_owner → new.objects ≡ old.objects → IsStored new
stored_suspended old new carried which stored locks keys of_object of_owner objects =
    stored_changed old new stored keys (λ k. ap (λ (t : Parted). is_some (part_of t k)) of_object) of_owner
    (subst (λ (t : Parted). length new.objects ≤ t.lists) (sym of_object) (subst (λ l. length l ≤ old.by_object.lists) (sym objects) stored.lists))
    (λ k c home.
    let placed = stored.placed k c home in
    record {
      number = placed.number;
      numbered = ap (λ l. number_in l (lock_at new.locks k).object.0) objects ∙ ap (number_in old.objects) (object k) ∙ placed.numbered;
      part = ap (λ (t : Parted). part_of t k) of_object ∙ placed.part ∙ ap (λ (o : OpSet). Some (part_for placed.number (class_of o))) (sym (ops k));
    })
    object
    (λ k c home. ap is_some_op (ops k) ∙ stored.carry k c home)
    (λ j k c d one other differ same conflict.
    fewer_granted _ _ _ _ (granted j) (granted k) (stored.apart j k c d one other differ same (sym (λ i. both_conflict (ops j i) (ops k i)) ∙ conflict))) where
      object : (k : ℕ) → (lock_at new.locks k).object.0 ≡ (lock_at old.locks k).object.0
      object k = ap (λ (l : Lock). l.object.0) (locks k) ∙ ap (λ o. o.0) (passed_object carried (which k) (lock_at old.locks k))

      ops : (k : ℕ) → (lock_at new.locks k).ops ≡ (lock_at old.locks k).ops
      ops k = ap (λ (l : Lock). l.ops) (locks k) ∙ passed_ops carried (which k) (lock_at old.locks k)

      granted : (k : ℕ) → (lock_at new.locks k).granted ≡ true → (lock_at old.locks k).granted ≡ true
      granted k h = passed_granted carried (which k) (lock_at old.locks k) (sym (ap (λ (l : Lock). l.granted) (locks k)) ∙ h)

-- ---- which locks are walked over
-- a lock of a part that does not meet the operations does not conflict with them
left_out : (ops : OpSet) (lock : Lock) → is_some_op lock.ops ≡ true → (w : Section) → class_of lock.ops ≡ w → meets w ops ≡ false → both_conflict lock.ops ops ≡ false
unfolding meets
left_out ops lock some Front is none = absurd (true≢false none)
left_out ops lock some Middle is none = adder_conflicts lock.ops ops is some ∙ none
left_out ops lock some Back is none = reader_conflicts lock.ops ops is some ∙ none

-- if the parts that meet the operations are walked over, a lock is suspended exactly if it is on the object and conflicts
walked : (x : ℕ) (ops : OpSet) (which : Section → Bool) → ((w : Section) → which w ≡ false → meets w ops ≡ false) → (lock : Lock) → is_some_op lock.ops ≡ true
    → passed_lock ops (is_on x lock && which (class_of lock.ops)) lock ≡ suspended x ops lock
unfolding suspended paused
walked x ops which covers lock some = go (is_on x lock) (which (class_of lock.ops)) refl where
  go : (on b : Bool) → which (class_of lock.ops) ≡ b → passed_lock ops (on && b) lock ≡ cond (on && both_conflict lock.ops ops) (record lock { granted = false }) lock
  go false b e = refl
  go true true e = refl
  go true false e = sym (ap (λ (c : Bool). cond c (record lock { granted = false }) lock) (left_out ops lock some (class_of lock.ops) refl (covers (class_of lock.ops) e)))

-- all parts
pub meets_all : (ops : OpSet) (w : Section) → is_up_to Back w ≡ false → meets w ops ≡ false
unfolding is_up_to
meets_all ops w out = absurd (true≢false out)

-- for operations that only read, all but the back part
pub meets_reads : (ops : OpSet) → excludes ops ≡ false → ops.add ≡ false → (w : Section) → is_up_to Middle w ≡ false → meets w ops ≡ false
unfolding is_up_to meets excludes
meets_reads ops some none Front out = absurd (true≢false out)
meets_reads ops some none Middle out = absurd (true≢false out)
meets_reads ops some none Back out = (λ i. (or_parts ops.write (ops.read && ops.add) some).0 i || none i)

-- for operations that only add, all but the middle part
abbrev pub either_end : Section → Bool
either_end w = same_section Front w || same_section Back w

pub meets_adds : (ops : OpSet) → excludes ops ≡ false → ops.add ≡ true → (w : Section) → either_end w ≡ false → meets w ops ≡ false
unfolding meets excludes
meets_adds ops some adds Front out = absurd (true≢false out)
meets_adds ops some adds Middle out = go ops.read ops.write ops.add some adds where
  go : (r w a : Bool) → (w || r && a) ≡ false → a ≡ true → (r || w) ≡ false
  go r w a e f = grind arith
meets_adds ops some adds Back out = absurd (true≢false out)

alike : (a b : Bool) → (a ≡ true → b ≡ true) → (b ≡ true → a ≡ true) → a ≡ b
alike true b there back = sym (there refl)
alike false true there back = back refl
alike false false there back = refl

-- ---- whether a key is walked over
module _ (store : Stored) (stored : IsStored store) (x number : ℕ) (numbered : number_in store.objects x ≡ Some number) where
  -- up to a part of the object
  pub listed_up_to : (last : Part) (section : Section) (keys : List ℕ) → last ≡ part_for number section → AreKeysUpTo store.by_object last keys → (k d : ℕ) → home_of store.by_owner k ≡ Some d
      → lists keys k ≡ (is_on x (lock_at store.locks k) && is_up_to section (class_of (lock_at store.locks k).ops))
  unfolding part_for
  listed_up_to last section keys is are k d home = alike (lists keys k) (is_on x (lock_at store.locks k) && is_up_to section (class_of (lock_at store.locks k).ops)) there back where
    there : lists keys k ≡ true → (is_on x (lock_at store.locks k) && is_up_to section (class_of (lock_at store.locks k).ops)) ≡ true
    there listed =
        let at = lists_at keys k listed in
        let in_part = are.there at.0 k at.1 in
        let on = on_object store stored x number numbered k d in_part.0 home (in_part.1 ∙ ap (λ (p : Part). Some (beside p in_part.0)) is) in
        λ i. on_from x (lock_at store.locks k) on.0 i && (ap (λ (w : Section). is_up_to section w) on.1 ∙ ap (λ (p : Part). is_up_to p.section in_part.0) (sym is) ∙ in_part.2) i

    back : (is_on x (lock_at store.locks k) && is_up_to section (class_of (lock_at store.locks k).ops)) ≡ true → lists keys k ≡ true
    back h =
        let parts = and_parts (is_on x (lock_at store.locks k)) (is_up_to section (class_of (lock_at store.locks k).ops)) h in
        let here = in_list store stored x number numbered k d home (on_to x (lock_at store.locks k) parts.0) in
        let at = are.all k (class_of (lock_at store.locks k).ops) (here ∙ ap (λ (p : Part). Some (beside p (class_of (lock_at store.locks k).ops))) (sym is)) (ap (λ (p : Part). is_up_to p.section (class_of (lock_at store.locks k).ops)) is ∙ parts.1) in
        at_lists keys at.0 k at.1

  -- in a part of the object
  listed_in : (part : Part) (w : Section) (keys : List ℕ) → part ≡ part_for number w → AreKeys store.by_object part keys → (k d : ℕ) → home_of store.by_owner k ≡ Some d
      → lists keys k ≡ (is_on x (lock_at store.locks k) && same_section w (class_of (lock_at store.locks k).ops))
  listed_in part w keys is are k d home = lists_in store.by_object part keys are k ∙ ap (λ (p : Part). is_in p (part_of store.by_object k)) is ∙ part_has store stored x number numbered k d w home

  -- in the front part or the back part
  pub listed_ends : (front back : Part) (first last : List ℕ) → front ≡ part_for number Front → back ≡ part_for number Back → AreKeys store.by_object front first → AreKeys store.by_object back last → (k d : ℕ) → home_of store.by_owner k ≡ Some d
      → (lists first k || lists last k) ≡ (is_on x (lock_at store.locks k) && either_end (class_of (lock_at store.locks k).ops))
  listed_ends front back first last is_front is_back ones others k d home =
      (λ i. listed_in front Front first is_front ones k d home i || listed_in back Back last is_back others k d home i)
      ∙ one (is_on x (lock_at store.locks k)) (same_section Front (class_of (lock_at store.locks k).ops)) (same_section Back (class_of (lock_at store.locks k).ops)) where
        one : (on a b : Bool) → (on && a || on && b) ≡ (on && (a || b))
        one true a b = refl
        one false a b = refl

-- ---- what the walks leave
module _ (store : Stored) (stored : IsStored store) (x c : ℕ) (ops : OpSet) (which : Section → Bool) (covers : (w : Section) → which w ≡ false → meets w ops ≡ false) (walks : ℕ → Bool)
    (walked_over : (k d : ℕ) → home_of store.by_owner k ≡ Some d → walks k ≡ (is_on x (lock_at store.locks k) && which (class_of (lock_at store.locks k).ops))) where
  pub all_suspended : (new : Stored) → ((k : ℕ) → lock_at new.locks k ≡ passed_lock ops (walks k && is_others c (home_of store.by_owner k)) (lock_at store.locks k)) → new.by_owner ≡ store.by_owner → new.objects ≡ store.objects
      → IsSuspended x c ops store new
  all_suspended new passed of_owner objects = record {
    own = λ k home.
        passed k
        ∙ ap (λ (o : Option ℕ). passed_lock ops (walks k && is_others c o) (lock_at store.locks k)) home
        ∙ ap (λ (b : Bool). passed_lock ops (walks k && b) (lock_at store.locks k)) (others_own c)
        ∙ ap (λ (b : Bool). passed_lock ops b (lock_at store.locks k)) (and_false (walks k));
    others = λ k d home differ.
        passed k
        ∙ ap (λ (o : Option ℕ). passed_lock ops (walks k && is_others c o) (lock_at store.locks k)) home
        ∙ ap (λ (b : Bool). passed_lock ops (walks k && b) (lock_at store.locks k)) (others_from c d differ)
        ∙ ap (λ (b : Bool). passed_lock ops b (lock_at store.locks k)) (and_true (walks k) ∙ walked_over k d home)
        ∙ walked x ops which covers (lock_at store.locks k) (stored.carry k d home);
    by_owner = of_owner;
    objects = objects;
  }

-- two walks, one after another
pub both_passed : (ops : OpSet) (first second other : Bool) (lock once twice : Lock) → once ≡ passed_lock ops (first && other) lock → twice ≡ passed_lock ops (second && other) once → twice ≡ passed_lock ops ((first || second) && other) lock
both_passed ops first second other lock once twice one two =
    two ∙ ap (passed_lock ops (second && other)) one ∙ twice_passed ops (first && other) (second && other) lock ∙ ap (λ (b : Bool). passed_lock ops b lock) (flags first second other) where
      flags : (a b o : Bool) → (a && o || b && o) ≡ ((a || b) && o)
      flags true true true = refl
      flags true true false = refl
      flags true false true = refl
      flags true false false = refl
      flags false b o = refl
