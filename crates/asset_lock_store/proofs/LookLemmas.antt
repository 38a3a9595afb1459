-- What a look at locks finds, one lock after another, and what a grant has to know of it.
use Rattle.std.proofs.Common.{◌≡◌, ℕ, ◌+◌, ◌<◌, ◌≤◌, length, List, get_or, arith, Bool, true, false, eqb, not, ◌&&◌, ◌||◌, Option, Some, None, ◌⊎◌, refl, sym, ap, subst, ◌∙◌, inl, inr}
use Rattle.std.specs.Prelude.{IfSome, IfNone, is_some}
use Rattle.std.specs.Option.{option_or}
use Rattle.std.proofs.lemmas.Bool.{eqb-true, eq-eqb, ne_eqb, cases_eq, true≢false, and_parts, or_parts, both_ways, false_from_ne_true}
use Rattle.asset_names.specs.declared.names.Txn.{Txn}
use Rattle.asset_names.specs.declared.operations.Op.{Op}
use Rattle.asset_names.proofs.Common.{one_txn, some_of, some_is_not_none}
use Rattle.asset_chains.specs.Chained.{home_of}
use Rattle.asset_lists.specs.declared.part.Part.{Part}
use Rattle.asset_lists.specs.declared.part.Section.{Section}
use Rattle.asset_lists.specs.declared.part.Section.TheVariants.{Front}
use Rattle.asset_lists.specs.Parted.{part_of, is_up_to, beside, IsAt, AreKeys, AreKeysUpTo}
use Rattle.asset_seats.specs.Seated.{Seated, seat}
use Rattle.asset_lock_store.specs.declared.looking.Look.{Look}
use Rattle.asset_lock_store.specs.LockRules.{is_on, one_conflicts, conflicts_on}
use Rattle.asset_names.specs.Numbered.{number_in}
use Rattle.asset_lock_store.specs.Stored.{Stored, lock_at, part_for, name_of, key_blocks, class_of, IsStored}
use Rattle.asset_lock_store.specs.Looked.{look_with, is_named, name_conflicts, key_named, key_conflicts, looks_at, is_looked_at, IsSeen, IsLook, IsLookedAt, IsNoted}
use Rattle.asset_lock_store.proofs.BlockLemmas.{if_some, absent_unnumbered, looked_at}
use Rattle.asset_lock_store.proofs.SuspendLemmas.{on_object, in_list}
use Rattle.asset_lock_store.proofs.LockLemmas.{on_to, on_from}
use Rattle.asset_lock_store.proofs.WalkLemmas.{looks_in_front, blocked_by, blocked_by_none, first_false, two_true, second_false}

-- ---- one look after another
own_both : {F G H : ℕ → Type 0} (a b : Option ℕ) → IfSome a F → IfSome b G → ((k : ℕ) → F k → H k) → ((k : ℕ) → G k → H k) → IfSome (option_or a b) H
own_both None b f g left right = if_some b g right
own_both (Some k) b f g left right = left k f

first_none : (a b : Option ℕ) → option_or a b ≡ None → (a ≡ None) × (b ≡ None)
first_none None b e = (refl, e)
first_none (Some k) b e = absurd (some_is_not_none k e)

module _ (store : Stored) (seats : Seated) (allows : ℕ → Bool) (t : ℕ) (op : Op) where
  pub look_nothing : (P : ℕ → Type 0) → ((k : ℕ) → P k → ⊥) → IsLook store seats allows t op P (record { blocked = false; own = None; conflicts = false })
  look_nothing P none = record {
    own = tt;
    blocked = λ h. absurd (true≢false (sym h));
    seen = λ free k here. absurd (none k here);
  }

  pub look_more : (P Q : ℕ → Type 0) (look more : Look) → IsLook store seats allows t op P look → look.blocked ≡ false → IsLook store seats allows t op Q more → IsLook store seats allows t op (λ k. P k ⊎ Q k) (look_with look more)
  unfolding look_with
  look_more P Q look more first free second = record {
    own = own_both look.own more.own first.own second.own (λ k h. (inl h.0, h.1)) (λ k h. (inr h.0, h.1));
    blocked = λ h. let by = second.blocked (sym (ap (λ (b : Bool). b || more.blocked) free) ∙ h) in (by.0, inr by.1, by.2);
    seen = λ h k at. elim at [
      | inl here ↦
          let seen = first.seen free k here in
          record { free = seen.free; own = λ none. seen.own (first_none look.own more.own none).0; alone = λ none. seen.alone (or_parts look.conflicts more.conflicts none).0 }
      | inr here ↦
          let seen = second.seen (or_parts look.blocked more.blocked h).1 k here in
          record { free = seen.free; own = λ none. seen.own (first_none look.own more.own none).1; alone = λ none. seen.alone (or_parts look.conflicts more.conflicts none).1 }
    ];
  }

  -- the locks that were looked at, said in another way; if one of them blocks, there may be more of them
  pub look_as : (P Q : ℕ → Type 0) (look : Look) → ((k : ℕ) → P k → Q k) → (look.blocked ≡ false → (k : ℕ) → Q k → P k) → IsLook store seats allows t op P look → IsLook store seats allows t op Q look
  look_as P Q look there back found = record {
    own = if_some look.own found.own (λ k h. (there k h.0, h.1));
    blocked = λ h. let by = found.blocked h in (by.0, there by.0 by.1, by.2);
    seen = λ h k here. found.seen h k (back h k here);
  }

  -- ---- a look along the keys of a part
  pub look_passed : (keys : List ℕ) (i key : ℕ) (look more : Look) → IsAt keys i key → IsLook store seats allows t op (λ k. (q : ℕ) × (q < i) × IsAt keys q k) look → look.blocked ≡ false → IsLook store seats allows t op (λ k. k ≡ key) more
      → IsLook store seats allows t op (λ k. (q : ℕ) × (q < i + 1) × IsAt keys q k) (look_with look more)
  look_passed keys i key look more at before free here =
      look_as (λ k. ((q : ℕ) × (q < i) × IsAt keys q k) ⊎ (k ≡ key)) (λ k. (q : ℕ) × (q < i + 1) × IsAt keys q k) (look_with look more)
      (λ k h. elim h [
        | inl passed ↦ (passed.0, omega (arith, passed.1), passed.2)
        | inr is ↦ (i, omega arith, subst (IsAt keys i) (sym is) at)
      ])
      (λ _ k h. elim (cases_eq h.0 i) [
        | inl same ↦ inr (sym h.2.reads ∙ ap (λ (n : ℕ). get_or keys n 0) same ∙ at.reads)
        | inr apart ↦ inl (h.0, omega (arith, h.1, apart), h.2)
      ])
      (look_more (λ k. (q : ℕ) × (q < i) × IsAt keys q k) (λ k. k ≡ key) look more before free here)

  -- all are passed, or one blocks
  pub look_all : (keys : List ℕ) (i : ℕ) (look : Look) → (look.blocked ≡ false → length keys ≤ i) → IsLook store seats allows t op (λ k. (q : ℕ) × (q < i) × IsAt keys q k) look → IsLook store seats allows t op (λ k. (q : ℕ) × IsAt keys q k) look
  look_all keys i look past found =
      look_as (λ k. (q : ℕ) × (q < i) × IsAt keys q k) (λ k. (q : ℕ) × IsAt keys q k) look
      (λ k h. (h.0, h.2))
      (λ free k h. (h.0, omega (arith, h.1.within, past free), h.1))
      found

  -- the keys are those of a part
  pub look_part : (part : Part) (keys : List ℕ) (look : Look) → AreKeys store.by_object part keys → IsLook store seats allows t op (λ k. (q : ℕ) × IsAt keys q k) look → IsLook store seats allows t op (λ k. part_of store.by_object k ≡ Some part) look
  look_part part keys look are found =
      look_as (λ k. (q : ℕ) × IsAt keys q k) (λ k. part_of store.by_object k ≡ Some part) look
      (λ k h. are.there h.0 k h.1)
      (λ _ k here. are.all k here)
      found

  -- or those up to a part of an object, which are all that are looked at
  pub look_up_to : (number : ℕ) (section : Section) (last : Part) (keys : List ℕ) (look : Look) → last ≡ part_for number section → ((w : Section) → is_up_to section w ≡ looks_at op w) → AreKeysUpTo store.by_object last keys
      → IsLook store seats allows t op (λ k. (q : ℕ) × IsAt keys q k) look → IsLook store seats allows t op (λ k. (w : Section) × (part_of store.by_object k ≡ Some (part_for number w)) × (looks_at op w ≡ true)) look
  unfolding part_for
  look_up_to number section last keys look is reach are found =
      look_as (λ k. (q : ℕ) × IsAt keys q k) (λ k. (w : Section) × (part_of store.by_object k ≡ Some (part_for number w)) × (looks_at op w ≡ true)) look
      (λ k h.
      let here = are.there h.0 k h.1 in
      (here.0, here.1 ∙ ap (λ (p : Part). Some (beside p here.0)) is, sym (reach here.0) ∙ ap (λ (p : Part). is_up_to p.section here.0) (sym is) ∙ here.2))
      (λ _ k h. are.all k h.0 (h.1 ∙ ap (λ (p : Part). Some (beside p h.0)) (sym is)) (ap (λ (p : Part). is_up_to p.section h.0) is ∙ reach h.0 ∙ h.2))
      found

  -- ---- a look at the parts of an object
  module _ (number : ℕ) (front : Part) (is_front : front ≡ part_for number Front) where
    -- a lock of the front part blocks
    pub look_front : (look : Look) → look.blocked ≡ true → IsLook store seats allows t op (λ k. part_of store.by_object k ≡ Some front) look
        → IsLook store seats allows t op (λ k. (w : Section) × (part_of store.by_object k ≡ Some (part_for number w)) × (looks_at op w ≡ true)) look
    look_front look blocks found =
        look_as (λ k. part_of store.by_object k ≡ Some front) (λ k. (w : Section) × (part_of store.by_object k ≡ Some (part_for number w)) × (looks_at op w ≡ true)) look
        (λ k at. (Front, at ∙ ap Some is_front, looks_in_front op))
        (λ free. absurd (true≢false (sym blocks ∙ free)))
        found

    -- these two parts are all that are looked at, or a lock of theirs blocks
    module _ (second : Section) (other : Part) (is_other : other ≡ part_for number second) (looks : looks_at op second ≡ true) where
      in_two : (k : ℕ) → (part_of store.by_object k ≡ Some front) ⊎ (part_of store.by_object k ≡ Some other) → (w : Section) × (part_of store.by_object k ≡ Some (part_for number w)) × (looks_at op w ≡ true)
      in_two k h = elim h [
        | inl at ↦ (Front, at ∙ ap Some is_front, looks_in_front op)
        | inr at ↦ (second, at ∙ ap Some is_other, looks)
      ]

      from_two : (k : ℕ) (w : Section) → part_of store.by_object k ≡ Some (part_for number w) → (w ≡ Front) ⊎ (w ≡ second) → (part_of store.by_object k ≡ Some front) ⊎ (part_of store.by_object k ≡ Some other)
      from_two k w at which = elim which [
        | inl is ↦ inl (at ∙ ap (λ (w : Section). Some (part_for number w)) is ∙ ap Some (sym is_front))
        | inr is ↦ inr (at ∙ ap (λ (w : Section). Some (part_for number w)) is ∙ ap Some (sym is_other))
      ]

      pub look_two : (look : Look) → (look.blocked ≡ false → (w : Section) → looks_at op w ≡ true → (w ≡ Front) ⊎ (w ≡ second)) → IsLook store seats allows t op (λ k. (part_of store.by_object k ≡ Some front) ⊎ (part_of store.by_object k ≡ Some other)) look
          → IsLook store seats allows t op (λ k. (w : Section) × (part_of store.by_object k ≡ Some (part_for number w)) × (looks_at op w ≡ true)) look
      look_two look covers found =
          look_as (λ k. (part_of store.by_object k ≡ Some front) ⊎ (part_of store.by_object k ≡ Some other)) (λ k. (w : Section) × (part_of store.by_object k ≡ Some (part_for number w)) × (looks_at op w ≡ true)) look
          in_two
          (λ free k h. from_two k h.0 h.1 (covers free h.0 h.2))
          found

  -- ---- a look at one lock
  pub look_one : (key : ℕ) (look : Look) → IfSome look.own (λ k. (k ≡ key) × (key_named store seats t k ≡ true)) → (look.own ≡ None → key_named store seats t key ≡ false)
      → look.blocked ≡ key_blocks store seats allows t op key → look.conflicts ≡ key_conflicts store seats t op key → IsLook store seats allows t op (λ k. k ≡ key) look
  look_one key look own others blocked conflicts = record {
    own = own;
    blocked = λ h. (key, refl, sym blocked ∙ h);
    seen = λ h k here. subst (IsSeen store seats allows t op look) (sym here) (record { free = sym blocked ∙ h; own = others; alone = λ none. sym conflicts ∙ none });
  }

  module _ (k : ℕ) where
    pub named_by : (u : Txn) → name_of seats (home_of store.by_owner k) ≡ Some u → key_named store seats t k ≡ eqb u.0 t
    unfolding key_named is_named
    named_by u who = ap (is_named t) who

    pub named_by_none : name_of seats (home_of store.by_owner k) ≡ None → key_named store seats t k ≡ false
    unfolding key_named is_named
    named_by_none nobody = ap (is_named t) nobody

    pub conflicts_by : (u : Txn) → name_of seats (home_of store.by_owner k) ≡ Some u → key_conflicts store seats t op k ≡ (not (eqb u.0 t) && one_conflicts (lock_at store.locks k).ops op)
    unfolding key_conflicts name_conflicts
    conflicts_by u who = ap (name_conflicts t op (lock_at store.locks k)) who

    pub conflicts_by_none : name_of seats (home_of store.by_owner k) ≡ None → key_conflicts store seats t op k ≡ false
    unfolding key_conflicts name_conflicts
    conflicts_by_none nobody = ap (name_conflicts t op (lock_at store.locks k)) nobody

    pub look_nobody : name_of seats (home_of store.by_owner k) ≡ None → IsLook store seats allows t op (λ j. j ≡ k) (record { blocked = false; own = None; conflicts = false })
    look_nobody nobody = look_one k _ tt (λ none. named_by_none nobody) (sym (blocked_by_none store seats allows t op k nobody)) (sym (conflicts_by_none nobody))

    module _ (u : Txn) (who : name_of seats (home_of store.by_owner k) ≡ Some u) where
      -- the lock is the asker's
      pub look_own : eqb u.0 t ≡ true → IsLook store seats allows t op (λ j. j ≡ k) (record { blocked = false; own = Some k; conflicts = false })
      look_own mine = look_one k _ (refl, named_by u who ∙ mine) (λ none. absurd (some_is_not_none k none))
          (first_false (eqb u.0 t) (one_conflicts (lock_at store.locks k).ops op) (not (allows u.0)) mine ∙ sym (blocked_by store seats allows t op k u who))
          (sym (conflicts_by u who ∙ ap (λ (b : Bool). not b && one_conflicts (lock_at store.locks k).ops op) mine))

      -- it is another's
      pub look_conflict : eqb u.0 t ≡ false → one_conflicts (lock_at store.locks k).ops op ≡ true → IsLook store seats allows t op (λ j. j ≡ k) (record { blocked = not (allows u.0); own = None; conflicts = true })
      look_conflict other conflict = look_one k _ tt (λ none. named_by u who ∙ other)
          (two_true (eqb u.0 t) (one_conflicts (lock_at store.locks k).ops op) (not (allows u.0)) other conflict ∙ sym (blocked_by store seats allows t op k u who))
          (sym (conflicts_by u who ∙ (λ i. not (other i) && conflict i)))

      pub look_apart : eqb u.0 t ≡ false → one_conflicts (lock_at store.locks k).ops op ≡ false → IsLook store seats allows t op (λ j. j ≡ k) (record { blocked = false; own = None; conflicts = false })
      look_apart other clear = look_one k _ tt (λ none. named_by u who ∙ other)
          (second_false (eqb u.0 t) (one_conflicts (lock_at store.locks k).ops op) (not (allows u.0)) other clear ∙ sym (blocked_by store seats allows t op k u who))
          (sym (conflicts_by u who ∙ (λ i. not (other i) && clear i)))

-- ---- a look at an object
module _ (store : Stored) (stored : IsStored store) (x number : ℕ) (op : Op) (numbered : number_in store.objects x ≡ Some number) where
  -- the keys of the parts that are looked at are those of the locks on the object that are
  pub looked_in : (k : ℕ) → (w : Section) × (part_of store.by_object k ≡ Some (part_for number w)) × (looks_at op w ≡ true) → IsLookedAt store x op k
  unfolding is_looked_at
  looked_in k h =
      let here = some_of (home_of store.by_owner k) (stored.held k ∙ sym (stored.listed k) ∙ ap is_some h.1) in
      let is = on_object store stored x number numbered k here.0 h.0 here.1 h.1 in
      record { seat = here.0; home = here.1; on = on_from x _ is.0; at = ap (looks_at op) is.1 ∙ h.2 }

  pub looked_from : (k : ℕ) → IsLookedAt store x op k → (w : Section) × (part_of store.by_object k ≡ Some (part_for number w)) × (looks_at op w ≡ true)
  unfolding is_looked_at
  looked_from k h = (class_of (lock_at store.locks k).ops, in_list store stored x number numbered k h.seat h.home (on_to x _ h.on), h.at)

pub unlooked : (store : Stored) → IsStored store → (x : ℕ) (op : Op) → number_in store.objects x ≡ None → (k : ℕ) → IsLookedAt store x op k → ⊥
unlooked store stored x op none k h = true≢false (sym h.on ∙ absent_unnumbered store stored x none k h.seat h.home)

-- ---- what a grant has to know
if_none_when : {P : Type 0} (o : Option ℕ) → (o ≡ None → P) → IfNone o P
if_none_when None f = f refl
if_none_when (Some k) f = tt

module _ (store : Stored) (seats : Seated) (allows : ℕ → Bool) (t : Txn) (x : ℕ) (op : Op) (look : Look) (found : IsLook store seats allows t.0 op (IsLookedAt store x op) look)
    (c : ℕ) (sits : seat seats c ≡ Some t) (once : (d : ℕ) → seat seats d ≡ Some t → d ≡ c) (holders : (d k : ℕ) → home_of store.by_owner k ≡ Some d → is_some (seat seats d) ≡ true) where
  who_has : (k d : ℕ) (u : Txn) → home_of store.by_owner k ≡ Some d → seat seats d ≡ Some u → name_of seats (home_of store.by_owner k) ≡ Some u
  unfolding name_of
  who_has k d u home at = ap (name_of seats) home ∙ at

  own_named : (k d : ℕ) → home_of store.by_owner k ≡ Some d → key_named store seats t.0 k ≡ true → d ≡ c
  own_named k d home named =
      let who = some_of (seat seats d) (holders d k home) in
      once d (who.1 ∙ ap Some (one_txn who.0 t (eqb-true who.0.0 t.0 (sym (named_by store seats allows t.0 op k who.0 (who_has k d who.0 home who.1)) ∙ named))))

  named_own : (k : ℕ) → home_of store.by_owner k ≡ Some c → key_named store seats t.0 k ≡ true
  named_own k home = named_by store seats allows t.0 op k t (who_has k c t home sits) ∙ eq-eqb t.0 t.0 refl

  others_conflict : (k d : ℕ) → home_of store.by_owner k ≡ Some d → (d ≡ c → ⊥) → one_conflicts (lock_at store.locks k).ops op ≡ true → key_conflicts store seats t.0 op k ≡ true
  others_conflict k d home differ conflict =
      let who = some_of (seat seats d) (holders d k home) in
      conflicts_by store seats allows t.0 op k who.0 (who_has k d who.0 home who.1)
      ∙ (λ i. not (ne_eqb who.0.0 t.0 (λ same. differ (once d (who.1 ∙ ap Some (one_txn who.0 t same)))) i) && conflict i)

  pub noted : look.blocked ≡ false → IsNoted store c x op look
  unfolding conflicts_on is_looked_at
  noted free = record {
    own = if_some look.own found.own (λ k h. (h.0.home ∙ ap Some (own_named k h.0.seat h.0.home h.1), h.0.on));
    none = if_none_when look.own (λ none k home on. false_from_ne_true _ (λ at.
        both_ways (key_named store seats t.0 k) ((found.seen free k (record { seat = c; home = home; on = on; at = at })).own none) (named_own k home)));
    alone = λ none k d home differ. false_from_ne_true _ (λ h.
        let both = and_parts _ _ h in
        both_ways (key_conflicts store seats t.0 op k) ((found.seen free k (record { seat = d; home = home; on = both.0; at = looked_at _ op both.1 })).alone none)
        (others_conflict k d home differ both.1));
  }

-- ---- the own lock, if a look did not meet it
module _ (store : Stored) (c x : ℕ) (op : Op) (look : Look) (noted : IsNoted store c x op look) (unmet : look.own ≡ None) where
  others : (k : ℕ) → home_of store.by_owner k ≡ Some c → is_on x (lock_at store.locks k) ≡ true → is_looked_at op (lock_at store.locks k) ≡ false
  others = go look.own unmet noted.none where
    go : {P : Type 0} (o : Option ℕ) → o ≡ None → IfNone o P → P
    go None is p = p
    go (Some k) is p = absurd (some_is_not_none k is)

  -- it is in a part that is not looked at
  pub unmet_in : (section : Section) → ((w : Section) → looks_at op w ≡ false → w ≡ section) → (k : ℕ) → home_of store.by_owner k ≡ Some c → is_on x (lock_at store.locks k) ≡ true → class_of (lock_at store.locks k).ops ≡ section
  unfolding is_looked_at
  unmet_in section misses k home on = misses (class_of (lock_at store.locks k).ops) (others k home on)

  -- there is none, after a look at all parts
  pub unmet_is_not_there : ((w : Section) → looks_at op w ≡ true) → (k : ℕ) → home_of store.by_owner k ≡ Some c → is_on x (lock_at store.locks k) ≡ false
  unfolding is_looked_at
  unmet_is_not_there all k home = false_from_ne_true _ (λ on. true≢false (sym (all (class_of (lock_at store.locks k).ops)) ∙ others k home on))
