-- Who blocks a request: names that are gathered from keys, one after another.
use Rattle.std.proofs.Common.{◌≡◌, ℕ, ◌+◌, ◌<◌, ◌≤◌, Bool, true, false, eqb, ltb, ◌&&◌, ◌||◌, cond, List, [], ◌∷◌, map, get_or, length, Option, Some, None, ◌⊎◌, refl, sym, ap, subst, ◌∙◌, inl, inr, arith}
use Rattle.std.specs.Prelude.{IfNone, Result, Ok, Err, IfOk}
use Rattle.std.proofs.lemmas.Bool.{eqb-true, eq-eqb, cases_eq, true≢false, and_parts, and_from, or_cases, or_left, or_right, false_from_ne_true}
use Rattle.std.specs.Ordering.{nat_cmp, match_ordering}
use Rattle.std.specs.declared.cmp.Ordering.TheVariants.{Less, Equal, Greater}
use Rattle.std.specs.BTreeSet.{insert_key}
use Rattle.asset_names.specs.declared.names.Txn.{Txn}
use Rattle.asset_names.specs.declared.operations.Op.{Op}
use Rattle.asset_names.specs.Arrows.{lists}
use Rattle.asset_names.specs.OpSets.{has_op}
use Rattle.std.specs.List.{list_any}
use Rattle.asset_chains.specs.Chained.{chain_of, home_of, IsConsistent}
use Rattle.asset_chains.proofs.Walks.{any_from, any_none}
use Rattle.asset_lists.specs.declared.part.Part.{Part}
use Rattle.asset_lists.specs.declared.part.Section.{Section}
use Rattle.asset_lists.specs.declared.part.Section.TheVariants.{Front}
use Rattle.asset_lists.specs.Parted.{Parted, part_of, IsAt, AreKeys}
use Rattle.asset_seats.specs.Seated.{Seated, seat}
use Rattle.asset_lock_store.specs.LockRules.{is_on, carries_on, blocks}
use Rattle.asset_names.specs.Numbered.{number_in}
use Rattle.asset_lock_store.specs.Stored.{Stored, lock_at, locks_at, part_for, name_of, key_blocks, IsStored}
use Rattle.asset_lock_store.specs.Looked.{looks_at, is_named, key_named}
use Rattle.asset_lock_store.specs.Gathered.{blocks_as, IsGathered}
use Rattle.asset_lock_store.proofs.LockLemmas.{on_to}
use Rattle.asset_lock_store.proofs.WalkLemmas.{looks_in_front}
use Rattle.asset_lock_store.proofs.BlockLemmas.{blocker_by_key, key_of_blocker}

pub none_as : {X P : Type 0} (o : Option X) → P → IfNone o P
none_as None p = p
none_as (Some x) p = tt

pub if_ok : {X Y : Type 0} {P Q R : X → Type 0} (r : Result X Y) → IfOk r P → IfOk r Q → ((x : X) → P x → Q x → R x) → IfOk r R
if_ok (Ok x) p q f = f x p q
if_ok (Err y) p q f = tt

-- ---- names in a set
pub nobody_listed : (n : ℕ) (names : List ℕ) → names ≡ [] → lists names n ≡ true → ⊥
unfolding lists
nobody_listed n names empty h = true≢false (sym h ∙ ap (λ (l : List ℕ). lists l n) empty)

-- the names that are found are those of who blocks
pub named_by : (names : List ℕ) (blocker : ℕ → Bool) → ((n : ℕ) → lists names n ≡ true → blocker n ≡ true) → ((n : ℕ) → blocker n ≡ true → lists names n ≡ true) → (n : ℕ) → lists names n ≡ blocker n
named_by names blocker there back n = go (lists names n) (blocker n) (there n) (back n) where
  go : (a b : Bool) → (a ≡ true → b ≡ true) → (b ≡ true → a ≡ true) → a ≡ b
  go true b f g = sym (f refl)
  go false true f g = g refl
  go false false f g = refl

either_twice : (a b : Bool) → (a || b) ≡ (a || (a || b))
either_twice a b = grind arith

either_swapped : (a b c : Bool) → (a || (b || c)) ≡ (b || (a || c))
either_swapped a b c = grind arith

pub lists_inserted : (n u : ℕ) (names : List ℕ) → lists (insert_key nat_cmp names n) u ≡ (eqb n u || lists names u)
unfolding lists
lists_inserted n u [] = refl
lists_inserted n u (m ∷ names) = go (ltb n m) (eqb n m) refl (lists_inserted n u names) where
  go : (less same : Bool) → eqb n m ≡ same → lists (insert_key nat_cmp names n) u ≡ (eqb n u || lists names u) → lists (match_ordering (cond less Less (cond same Equal Greater)) (n ∷ m ∷ names) (m ∷ names) (m ∷ insert_key nat_cmp names n)) u ≡ (eqb n u || (eqb m u || lists names u))
  go true same e rest = refl
  go false true e rest = either_twice (eqb m u) (lists names u) ∙ ap (λ (j : ℕ). eqb j u || (eqb m u || lists names u)) (sym (eqb-true n m e))
  go false false e rest = ap (λ (b : Bool). eqb m u || b) rest ∙ either_swapped (eqb m u) (eqb n u) (lists names u)

module _ (belongs : ℕ → ℕ → Bool) where
  pub gathered_more : (P Q : ℕ → Type 0) (a b c : List ℕ) → IsGathered belongs P a b → IsGathered belongs Q b c → IsGathered belongs (λ k. P k ⊎ Q k) a c
  gathered_more P Q a b c first second = record {
    kept = λ u h. second.kept u (first.kept u h);
    all = λ k u at h. elim at [
      | inl here ↦ second.kept u (first.all k u here h)
      | inr here ↦ second.all k u here h
    ];
    only = λ u h. elim (second.only u h) [
      | inl was ↦ elim (first.only u was) [
        | inl before ↦ inl before
        | inr by ↦ inr (by.0, inl by.1, by.2)
      ]
      | inr by ↦ inr (by.0, inr by.1, by.2)
    ];
  }

  -- the keys that were looked at, said in another way
  pub gathered_as : (P Q : ℕ → Type 0) (a b : List ℕ) → ((k : ℕ) → P k → Q k) → ((k : ℕ) → Q k → P k) → IsGathered belongs P a b → IsGathered belongs Q a b
  gathered_as P Q a b there back found = record {
    kept = found.kept;
    all = λ k u here h. found.all k u (back k here) h;
    only = λ u h. elim (found.only u h) [
      | inl was ↦ inl was
      | inr by ↦ inr (by.0, there by.0 by.1, by.2)
    ];
  }

  -- a key belongs to nobody
  pub gathered_nobody : (key : ℕ) (names : List ℕ) → ((u : ℕ) → belongs key u ≡ true → ⊥) → IsGathered belongs (λ k. k ≡ key) names names
  gathered_nobody key names none = record {
    kept = λ u h. h;
    all = λ k u here h. absurd (none u (subst (λ j. belongs j u ≡ true) here h));
    only = λ u h. inl h;
  }

  -- or to one alone
  pub gathered_one : (key n : ℕ) (names : List ℕ) → belongs key n ≡ true → ((u : ℕ) → belongs key u ≡ true → n ≡ u) → IsGathered belongs (λ k. k ≡ key) names (insert_key nat_cmp names n)
  gathered_one key n names does single = record {
    kept = λ u h. lists_inserted n u names ∙ or_right (eqb n u) (lists names u) h;
    all = λ k u here h. lists_inserted n u names ∙ or_left (eqb n u) (lists names u) (eq-eqb n u (single u (subst (λ j. belongs j u ≡ true) here h)));
    only = λ u h. elim (or_cases (eqb n u) (lists names u) (sym (lists_inserted n u names) ∙ h)) [
      | inl is ↦ inr (key, refl, subst (λ m. belongs key m ≡ true) (eqb-true n u is) does)
      | inr was ↦ inl was
    ];
  }

  -- ---- along the keys of a part
  pub gathered_passed : (keys : List ℕ) (i key : ℕ) (a b c : List ℕ) → IsAt keys i key → IsGathered belongs (λ k. (q : ℕ) × (q < i) × IsAt keys q k) a b → IsGathered belongs (λ k. k ≡ key) b c
      → IsGathered belongs (λ k. (q : ℕ) × (q < i + 1) × IsAt keys q k) a c
  gathered_passed keys i key a b c at before here =
      gathered_as (λ k. ((q : ℕ) × (q < i) × IsAt keys q k) ⊎ (k ≡ key)) (λ k. (q : ℕ) × (q < i + 1) × IsAt keys q k) a c
      (λ k h. elim h [
        | inl passed ↦ (passed.0, omega (arith, passed.1), passed.2)
        | inr is ↦ (i, omega arith, subst (IsAt keys i) (sym is) at)
      ])
      (λ k h. elim (cases_eq h.0 i) [
        | inl same ↦ inr (sym h.2.reads ∙ ap (λ (n : ℕ). get_or keys n 0) same ∙ at.reads)
        | inr apart ↦ inl (h.0, omega (arith, h.1, apart), h.2)
      ])
      (gathered_more (λ k. (q : ℕ) × (q < i) × IsAt keys q k) (λ k. k ≡ key) a b c before here)

  pub gathered_part : (table : Parted) (part : Part) (keys : List ℕ) (i : ℕ) (a b : List ℕ) → AreKeys table part keys → length keys ≤ i → IsGathered belongs (λ k. (q : ℕ) × (q < i) × IsAt keys q k) a b
      → IsGathered belongs (λ k. part_of table k ≡ Some part) a b
  gathered_part table part keys i a b are past found =
      gathered_as (λ k. (q : ℕ) × (q < i) × IsAt keys q k) (λ k. part_of table k ≡ Some part) a b
      (λ k h. are.there h.0 k h.2)
      (λ k here. let at = are.all k here in (at.0, omega (arith, at.1.within, past), at.1))
      found

  -- ---- the parts of an object
  module _ (table : Parted) (op : Op) (number : ℕ) (front : Part) (is_front : front ≡ part_for number Front) (second : Section) (other : Part) (is_other : other ≡ part_for number second) (looks : looks_at op second ≡ true) where
    in_two : (k : ℕ) → (part_of table k ≡ Some front) ⊎ (part_of table k ≡ Some other) → (w : Section) × (part_of table k ≡ Some (part_for number w)) × (looks_at op w ≡ true)
    in_two k h = elim h [
      | inl at ↦ (Front, at ∙ ap Some is_front, looks_in_front op)
      | inr at ↦ (second, at ∙ ap Some is_other, looks)
    ]

    from_two : (k : ℕ) (w : Section) → part_of table k ≡ Some (part_for number w) → (w ≡ Front) ⊎ (w ≡ second) → (part_of table k ≡ Some front) ⊎ (part_of table k ≡ Some other)
    from_two k w at which = elim which [
      | inl is ↦ inl (at ∙ ap (λ (w : Section). Some (part_for number w)) is ∙ ap Some (sym is_front))
      | inr is ↦ inr (at ∙ ap (λ (w : Section). Some (part_for number w)) is ∙ ap Some (sym is_other))
    ]

    -- these two are all that are looked at
    pub gathered_two : ((w : Section) → looks_at op w ≡ true → (w ≡ Front) ⊎ (w ≡ second)) → (a b c : List ℕ) → IsGathered belongs (λ k. part_of table k ≡ Some front) a b
        → IsGathered belongs (λ k. part_of table k ≡ Some other) b c
        → IsGathered belongs (λ k. (w : Section) × (part_of table k ≡ Some (part_for number w)) × (looks_at op w ≡ true)) a c
    gathered_two covers a b c one two =
        gathered_as (λ k. (part_of table k ≡ Some front) ⊎ (part_of table k ≡ Some other)) (λ k. (w : Section) × (part_of table k ≡ Some (part_for number w)) × (looks_at op w ≡ true)) a c
        in_two
        (λ k h. from_two k h.0 h.1 (covers h.0 h.2))
        (gathered_more (λ k. part_of table k ≡ Some front) (λ k. part_of table k ≡ Some other) a b c one two)

    -- all three are
    pub gathered_three : (third : Section) (last : Part) → last ≡ part_for number third → looks_at op third ≡ true → ((w : Section) → ((w ≡ Front) ⊎ (w ≡ second)) ⊎ (w ≡ third)) → (a b c d : List ℕ) → IsGathered belongs (λ k. part_of table k ≡ Some front) a b
        → IsGathered belongs (λ k. part_of table k ≡ Some other) b c
        → IsGathered belongs (λ k. part_of table k ≡ Some last) c d
        → IsGathered belongs (λ k. (w : Section) × (part_of table k ≡ Some (part_for number w)) × (looks_at op w ≡ true)) a d
    gathered_three third last is_last looks_too covers a b c d one two three =
        gathered_as (λ k. ((part_of table k ≡ Some front) ⊎ (part_of table k ≡ Some other)) ⊎ (part_of table k ≡ Some last)) (λ k. (w : Section) × (part_of table k ≡ Some (part_for number w)) × (looks_at op w ≡ true)) a d
        (λ k h. elim h [
          | inl before ↦ in_two k before
          | inr at ↦ (third, at ∙ ap Some is_last, looks_too)
        ])
        (λ k h. elim (covers h.0) [
          | inl before ↦ inl (from_two k h.0 h.1 before)
          | inr is ↦ inr (h.1 ∙ ap (λ (w : Section). Some (part_for number w)) is ∙ ap Some (sym is_last))
        ])
        (gathered_more (λ k. (part_of table k ≡ Some front) ⊎ (part_of table k ≡ Some other)) (λ k. part_of table k ≡ Some last) a c d (gathered_more (λ k. part_of table k ≡ Some front) (λ k. part_of table k ≡ Some other) a b c one two) three)

-- ---- whose a lock is that blocks
module _ (store : Stored) (seats : Seated) (allows : ℕ → Bool) (t : ℕ) (op : Op) (k : ℕ) where
  pub belongs_to : (u : Txn) → name_of seats (home_of store.by_owner k) ≡ Some u → key_blocks store seats allows t op k ≡ true → blocks_as store seats allows t op k u.0 ≡ true
  unfolding blocks_as key_named is_named
  belongs_to u who blocks = and_from _ _ (ap (is_named u.0) who ∙ eq-eqb u.0 u.0 refl) blocks

  pub belongs_alone : (u : Txn) → name_of seats (home_of store.by_owner k) ≡ Some u → (n : ℕ) → blocks_as store seats allows t op k n ≡ true → u.0 ≡ n
  unfolding blocks_as key_named is_named
  belongs_alone u who n h = eqb-true u.0 n (sym (ap (is_named n) who) ∙ (and_parts _ _ h).0)

  pub belongs_to_none : key_blocks store seats allows t op k ≡ false → (n : ℕ) → blocks_as store seats allows t op k n ≡ true → ⊥
  unfolding blocks_as
  belongs_to_none clear n h = true≢false (sym (and_parts _ _ h).1 ∙ clear)

-- the names that are gathered from the locks on an object are those of who blocks
module _ (store : Stored) (stored : IsStored store) (of_owner : IsConsistent store.by_owner) (seats : Seated) (allows : ℕ → Bool) (t x : ℕ) (op : Op) where
  module _ (number : ℕ) (numbered : number_in store.objects x ≡ Some number) (names : List ℕ)
      (found : IsGathered (blocks_as store seats allows t op) (λ k. (w : Section) × (part_of store.by_object k ≡ Some (part_for number w)) × (looks_at op w ≡ true)) [] names) where
    pub all_blockers : (c : ℕ) (u : Txn) → seat seats c ≡ Some u → blocks allows t x op u.0 (locks_at store c) ≡ true → lists names u.0 ≡ true
    all_blockers c u sits h =
        let by = key_of_blocker store stored of_owner seats allows t x op number numbered c u sits h in
        found.all by.0 u.0 by.1 (belongs_to store seats allows t op by.0 u by.2 by.3)

    pub only_blockers : (n : ℕ) → lists names n ≡ true → (c : ℕ) × (u : Txn) × (seat seats c ≡ Some u) × (blocks allows t x op u.0 (locks_at store c) ≡ true) × (u.0 ≡ n)
    unfolding lists blocks_as
    only_blockers n h = elim (found.only n h) [
      | inl was ↦ absurd (true≢false (sym was))
      | inr by ↦
          let who = blocker_by_key store stored of_owner seats allows t x op number numbered by.0 by.1.0 by.1.1 (and_parts _ _ by.2).1 in
          (who.0, who.1, who.2, who.3, belongs_alone store seats allows t op by.0 who.1 who.4 n by.2)
    ]

-- ---- what the lock of a seat on an object carries
module _ (store : Stored) (stored : IsStored store) (sound : IsConsistent store.by_owner) (c x : ℕ) (op : Op) where
  pub carries_at : (key : ℕ) → home_of store.by_owner key ≡ Some c → is_on x (lock_at store.locks key) ≡ true → list_any (carries_on x op) (locks_at store c) ≡ has_op (lock_at store.locks key).ops op
  unfolding locks_at carries_on
  carries_at key home on = go (has_op (lock_at store.locks key).ops op) refl where
    another : has_op (lock_at store.locks key).ops op ≡ false → (k : ℕ) → home_of store.by_owner k ≡ Some c → (is_on x (lock_at store.locks k) && has_op (lock_at store.locks k).ops op) ≡ false
    another lacks k here = false_from_ne_true _ (λ h.
        let both = and_parts _ _ h in
        let same = stored.single k key c here home (on_to x _ both.0 ∙ sym (on_to x _ on)) in
        true≢false (sym both.1 ∙ ap (λ (j : ℕ). has_op (lock_at store.locks j).ops op) same ∙ lacks))

    go : (b : Bool) → has_op (lock_at store.locks key).ops op ≡ b → list_any (carries_on x op) (map (lock_at store.locks) (chain_of store.by_owner c)) ≡ b
    go true has = any_from (carries_on x op) (lock_at store.locks) (chain_of store.by_owner c) key (sound.listed c key home) (and_from _ _ on has)
    go false lacks = any_none (carries_on x op) (lock_at store.locks) (chain_of store.by_owner c) (λ k there. another lacks k (sound.at_home c k there))

  pub carries_nothing : ((k : ℕ) → home_of store.by_owner k ≡ Some c → is_on x (lock_at store.locks k) ≡ false) → list_any (carries_on x op) (locks_at store c) ≡ false
  unfolding locks_at carries_on
  carries_nothing none = any_none (carries_on x op) (lock_at store.locks) (chain_of store.by_owner c) (λ k there. ap (λ (b : Bool). b && has_op (lock_at store.locks k).ops op) (none k (sound.at_home c k there)))
