-- Whose locks on an object block a request, and which lock on it is a seat's.
use Rattle.std.proofs.Common.{◌≡◌, ℕ, Bool, true, false, eqb, not, cond, ◌&&◌, ◌||◌, Option, Some, None, refl, sym, ap, ◌∙◌}
use Rattle.std.specs.Prelude.{IfSome, IfNone, map}
use Rattle.std.specs.List.{list_any}
use Rattle.std.proofs.lemmas.Bool.{true≢false, and_parts, and_from, both_ways, false_from_ne_true}
use Rattle.asset_names.specs.declared.names.Txn.{Txn}
use Rattle.asset_names.specs.declared.operations.Op.{Op}
use Rattle.asset_names.specs.declared.operations.Op.TheVariants as Op'
use Rattle.asset_names.specs.Operations.{conflict}
use Rattle.asset_names.specs.OpSets.{OpSet, only_op}
use Rattle.asset_chains.specs.Chained.{chain_of, home_of, IsConsistent}
use Rattle.asset_chains.proofs.Walks.{any_found, any_from}
use Rattle.asset_lists.specs.declared.part.Section.{Section}
use Rattle.asset_lists.specs.declared.part.Section.TheVariants.{Front, Middle, Back}
use Rattle.asset_lists.specs.Parted.{part_of}
use Rattle.asset_seats.specs.Seated.{Seated, seat}
use Rattle.asset_lock_store.specs.LockRules.{is_on, one_conflicts, conflicts_on, blocks, excludes}
use Rattle.asset_names.specs.Numbered.{number_in}
use Rattle.asset_lock_store.specs.Stored.{Stored, lock_at, locks_at, part_for, is_others, name_of, name_blocks, key_blocks, class_of, meets, IsStored}
use Rattle.asset_lock_store.specs.Looked.{looks_at}
use Rattle.asset_lock_store.proofs.WalkLemmas.{others_own, blocked_by}
use Rattle.asset_lock_store.proofs.SuspendLemmas.{on_object, in_list}
use Rattle.asset_lock_store.proofs.LockLemmas.{on_to, on_from}

pub if_some : {X : Type 0} {P Q : X → Type 0} (o : Option X) → IfSome o P → ((x : X) → P x → Q x) → IfSome o Q
if_some None h f = tt
if_some (Some x) h f = f x h

pub if_none : {X P Q : Type 0} (o : Option X) → IfNone o P → (P → Q) → IfNone o Q
if_none None h f = f h
if_none (Some x) h f = tt

-- ---- the lock of a seat on an object
module _ (store : Stored) (stored : IsStored store) (x number : ℕ) (numbered : number_in store.objects x ≡ Some number) where
  pub found_on : (k c : ℕ) (w : Section) → home_of store.by_owner k ≡ Some c → part_of store.by_object k ≡ Some (part_for number w) → is_on x (lock_at store.locks k) ≡ true
  found_on k c w home at = on_from x _ (on_object store stored x number numbered k c w home at).0

  pub absent_on : (k c : ℕ) → ((k : ℕ) (w : Section) → part_of store.by_object k ≡ Some (part_for number w) → is_others c (home_of store.by_owner k) ≡ true) → home_of store.by_owner k ≡ Some c → is_on x (lock_at store.locks k) ≡ false
  absent_on k c none home = false_from_ne_true _ (λ on.
      let at = in_list store stored x number numbered k c home (on_to x _ on) in
      both_ways (is_others c (Some c)) (others_own c) (ap (is_others c) (sym home) ∙ none k _ at))

  -- it is in no part but the one that its operations say
  pub absent_in : (k c : ℕ) (w : Section) → ((k : ℕ) → home_of store.by_owner k ≡ Some c → is_on x (lock_at store.locks k) ≡ true → class_of (lock_at store.locks k).ops ≡ w) → ((k : ℕ) → part_of store.by_object k ≡ Some (part_for number w) → is_others c (home_of store.by_owner k) ≡ true)
      → home_of store.by_owner k ≡ Some c → is_on x (lock_at store.locks k) ≡ false
  absent_in k c w class none home = false_from_ne_true _ (λ on.
      let at = in_list store stored x number numbered k c home (on_to x _ on) in
      both_ways (is_others c (Some c)) (others_own c) (ap (is_others c) (sym home) ∙ none k (at ∙ ap (λ (w : Section). Some (part_for number w)) (class k home on))))

pub absent_unnumbered : (store : Stored) → IsStored store → (x : ℕ) → number_in store.objects x ≡ None → (k c : ℕ) → home_of store.by_owner k ≡ Some c → is_on x (lock_at store.locks k) ≡ false
absent_unnumbered store stored x none k c home = false_from_ne_true _ (λ on.
    let placed = stored.placed k c home in no_number placed.number (sym placed.numbered ∙ ap (number_in store.objects) (on_to x _ on) ∙ none)) where
      no_number : (n : ℕ) → Some n ≡ None → ⊥
      no_number n e = cc

-- ---- who blocks
-- a lock that conflicts is in a part that is looked at
pub looked_at : (ops : OpSet) (op : Op) → one_conflicts ops op ≡ true → looks_at op (class_of ops) ≡ true
unfolding looks_at meets class_of excludes one_conflicts conflict only_op
looked_at ops Op'.Read conflicts = go ops.read ops.write ops.add conflicts where
  go : (r w a : Bool) → ((r && false || w && true) || a && true) ≡ true → looks_at Op'.Read (cond (w || r && a) Front (cond a Middle Back)) ≡ true
  go r true a h = refl
  go true false true h = refl
  go false false true h = refl
  go true false false h = absurd (true≢false (sym h))
  go false false false h = absurd (true≢false (sym h))
looked_at ops Op'.Write conflicts = go (class_of ops) where
  go : (w : Section) → looks_at Op'.Write w ≡ true
  go Front = refl
  go Middle = refl
  go Back = refl
looked_at ops Op'.Add conflicts = go ops.read ops.write ops.add conflicts where
  go : (r w a : Bool) → ((r && true || w && true) || a && false) ≡ true → looks_at Op'.Add (cond (w || r && a) Front (cond a Middle Back)) ≡ true
  go r true a h = refl
  go true false true h = refl
  go true false false h = refl
  go false false true h = absurd (true≢false (sym h))
  go false false false h = absurd (true≢false (sym h))

three_from : (a b c : Bool) → (a && b && c) ≡ true → (a ≡ true) × (b ≡ true) × (c ≡ true)
three_from a b c h = let last = and_parts (a && b) c h in let first = and_parts a b last.0 in (first.0, first.1, last.1)

three_all : (a b c : Bool) → a ≡ true → b ≡ true → c ≡ true → (a && b && c) ≡ true
three_all a b c p q r = λ i. p i && q i && r i

module _ (store : Stored) (stored : IsStored store) (of_owner : IsConsistent store.by_owner) (seats : Seated) (allows : ℕ → Bool) (t x : ℕ) (op : Op) where
  -- whose a lock is that blocks
  blocker : (k : ℕ) → key_blocks store seats allows t op k ≡ true → (c : ℕ) × (u : Txn) × (home_of store.by_owner k ≡ Some c) × (seat seats c ≡ Some u)
  unfolding key_blocks name_blocks name_of
  blocker k h = go (home_of store.by_owner k) refl where
    go : (o : Option ℕ) → home_of store.by_owner k ≡ o → (c : ℕ) × (u : Txn) × (home_of store.by_owner k ≡ Some c) × (seat seats c ≡ Some u)
    go None e = absurd (true≢false (sym h ∙ ap (λ (o : Option ℕ). name_blocks allows t op (lock_at store.locks k) (name_of seats o)) e))
    go (Some c) e = sits (seat seats c) refl where
      sits : (o : Option Txn) → seat seats c ≡ o → (c : ℕ) × (u : Txn) × (home_of store.by_owner k ≡ Some c) × (seat seats c ≡ Some u)
      sits None n = absurd (true≢false (sym h ∙ ap (λ (o : Option ℕ). name_blocks allows t op (lock_at store.locks k) (name_of seats o)) e ∙ ap (name_blocks allows t op (lock_at store.locks k)) n))
      sits (Some u) s = (c, u, e, s)

  named : (k c : ℕ) (u : Txn) → home_of store.by_owner k ≡ Some c → seat seats c ≡ Some u → name_of seats (home_of store.by_owner k) ≡ Some u
  unfolding name_of
  named k c u home sits = ap (name_of seats) home ∙ sits

  module _ (number : ℕ) (numbered : number_in store.objects x ≡ Some number) where
    -- if a lock of the object blocks, its owner does
    pub blocker_by_key : (k : ℕ) (w : Section) → part_of store.by_object k ≡ Some (part_for number w) → key_blocks store seats allows t op k ≡ true
        → (c : ℕ) × (u : Txn) × (seat seats c ≡ Some u) × (blocks allows t x op u.0 (locks_at store c) ≡ true) × (name_of seats (home_of store.by_owner k) ≡ Some u)
    unfolding blocks conflicts_on locks_at
    blocker_by_key k w at h =
        let who = blocker k h in
        let is = named k who.0 who.1 who.2 who.3 in
        let parts = three_from _ _ _ (sym (blocked_by store seats allows t op k who.1 is) ∙ h) in
        let on = on_from x _ (on_object store stored x number numbered k who.0 w who.2 at).0 in (
          who.0,
          who.1,
          who.3,
          three_all _ _ _ parts.0 parts.2 (any_from (conflicts_on x op) (lock_at store.locks) (chain_of store.by_owner who.0) k (of_owner.listed who.0 k who.2) (and_from _ _ on parts.1)),
          is,
        )

    pub blocks_by_key : (k : ℕ) (w : Section) → part_of store.by_object k ≡ Some (part_for number w) → key_blocks store seats allows t op k ≡ true
        → (c : ℕ) × (u : Txn) × (seat seats c ≡ Some u) × (blocks allows t x op u.0 (locks_at store c) ≡ true)
    blocks_by_key k w at h = let by = blocker_by_key k w at h in (by.0, by.1, by.2, by.3)

    -- and if somebody does, a lock of its does, which is looked at
    pub key_of_blocker : (c : ℕ) (u : Txn) → seat seats c ≡ Some u → blocks allows t x op u.0 (locks_at store c) ≡ true
        → (k : ℕ) × ((w : Section) × (part_of store.by_object k ≡ Some (part_for number w)) × (looks_at op w ≡ true)) × (name_of seats (home_of store.by_owner k) ≡ Some u) × (key_blocks store seats allows t op k ≡ true)
    unfolding blocks conflicts_on locks_at
    key_of_blocker c u sits h =
        let parts = three_from _ _ _ h in
        let found = any_found (conflicts_on x op) (lock_at store.locks) (chain_of store.by_owner c) parts.2 in
        let home = of_owner.at_home c found.0 found.1 in
        let both = and_parts _ _ found.2 in
        let at = in_list store stored x number numbered found.0 c home (on_to x _ both.0) in
        let is = named found.0 c u home sits in
        (found.0, (_, at, looked_at _ op both.1), is, blocked_by store seats allows t op found.0 u is ∙ three_all _ _ _ parts.0 both.1 parts.1)

    -- if no lock that is looked at does, nobody does
    pub free_by_keys : ((k : ℕ) (w : Section) → part_of store.by_object k ≡ Some (part_for number w) → looks_at op w ≡ true → key_blocks store seats allows t op k ≡ false)
        → (c : ℕ) (u : Txn) → seat seats c ≡ Some u → blocks allows t x op u.0 (locks_at store c) ≡ false
    free_by_keys none c u sits = false_from_ne_true _ (λ h.
        let by = key_of_blocker c u sits h in
        both_ways (key_blocks store seats allows t op by.0) (none by.0 by.1.0 by.1.1 by.1.2) by.3)

  -- nobody has a lock on an object without a number
  pub free_unnumbered : number_in store.objects x ≡ None → (c : ℕ) (u : Txn) → seat seats c ≡ Some u → blocks allows t x op u.0 (locks_at store c) ≡ false
  unfolding blocks conflicts_on locks_at
  free_unnumbered none c u sits = false_from_ne_true _ (λ h.
      let parts = three_from (not (eqb u.0 t)) (not (allows u.0)) (list_any (conflicts_on x op) (map (lock_at store.locks) (chain_of store.by_owner c))) h in
      let found = any_found (conflicts_on x op) (lock_at store.locks) (chain_of store.by_owner c) parts.2 in
      both_ways (is_on x (lock_at store.locks found.0)) (absent_unnumbered store stored x none found.0 c (of_owner.at_home c found.0 found.1)) (and_parts _ _ found.2).0)
