-- A lock that becomes another seat's, and what is stored then.
use Rattle.std.proofs.Common.{◌≡◌, ℕ, ◌<◌, Bool, true, false, eqb, cond, ◌||◌, List, [], ◌∷◌, ◌++◌, map, length, Option, Some, None, is_some, refl, sym, ap, subst, ◌∙◌, inl, inr, arith}
use Rattle.std.proofs.lemmas.Bool.{eqb-true, eqb-false, eq-eqb, ne_eqb, cases_Bool, cases_eq, both_ways, true≢false}
use Rattle.std.proofs.lemmas.List.{map-append}
use Rattle.slab.specs.Slab.{Slab, get, with_value}
use Rattle.asset_names.specs.OpSets.{OpSet}
use Rattle.asset_names.proofs.Common.{some_is_not_none, and_false}
use Rattle.asset_chains.specs.Chained.{Chained, chain_of, home_of, lists, without, pushed, unlinked, IsConsistent}
use Rattle.asset_chains.proofs.Laws.{key_within, unlinks, pushes}
use Rattle.asset_chains.proofs.SoundLemmas.{listed_once}
use Rattle.asset_chains.proofs.Walks.{chains_without, map_same}
use Rattle.asset_chains.proofs.KeyLemmas.{without_unlisted}
use Rattle.asset_lists.specs.Parted.{part_of, IsChangedAt}
use Rattle.asset_lock_store.specs.declared.lock.Lock.{Lock}
use Rattle.asset_lock_store.specs.LockRules.{is_on, both_ops, merged, is_some_op}
use Rattle.asset_names.specs.Numbered.{number_in}
use Rattle.asset_lock_store.specs.Stored.{Stored, lock_at, locks_at, part_for, class_of, IsStored, IsDropped, IsMoved, IsHanded}
use Rattle.asset_lock_store.proofs.StoreLemmas.{written, read_lock}
use Rattle.asset_lock_store.proofs.GrantLemmas.{stored_written, found_here, none_here, seat_one}
use Rattle.asset_lock_store.proofs.MergeLemmas.{with_ops, merged_here, merged_apart, ops_one, moved_here, moved_alone}
use Rattle.asset_lock_store.proofs.LockLemmas.{on_to, on_from, off_from}

-- the operations are added to the lock at a key, which is suspended
pub added_some : (locks : Slab Lock) (key : ℕ) (ops : OpSet) (lock : Lock) → get locks key ≡ Some lock → (k : ℕ)
    → lock_at (with_value locks key (with_ops ops lock)) k ≡ cond (eqb k key) (with_ops ops (lock_at locks key)) (lock_at locks k)
added_some locks key ops lock there k =
    written locks key lock (with_ops ops lock) there k
    ∙ ap (λ (l : Lock). cond (eqb k key) (with_ops ops l) (lock_at locks k)) (sym (read_lock locks key lock there))

-- ---- a key that is unlinked, and pushed on another chain
pub moved_homes : (old gone new : Chained) (key from to : ℕ) → home_of old key ≡ Some from → to < length old.chains → gone ≡ unlinked key old → new ≡ pushed to key gone → (k : ℕ) → home_of new k ≡ cond (eqb k key) (Some to) (home_of old k)
moved_homes old gone new key from to home seat unlinks_it pushes_it k =
    let less = unlinks from key old gone home unlinks_it in
    let more = pushes to key gone new (subst (λ n. to < n) (sym less.same_chains) seat) (subst (λ n. key < n) (sym less.same_keys) (key_within key from old home)) pushes_it in
    elim (cases_Bool (eqb k key)) [
      | inl here ↦ ap (home_of new) (eqb-true k key here) ∙ more.home ∙ sym (ap (λ (b : Bool). cond b (Some to) (home_of old k)) here)
      | inr apart ↦ more.homes k (eqb-false k key apart) ∙ less.homes k (eqb-false k key apart) ∙ sym (ap (λ (b : Bool). cond b (Some to) (home_of old k)) apart)
    ]

-- a lock is at the end of those of a seat that has none on its object
pub moved_chain : (old : Stored) (gone table : Chained) (key from to : ℕ) → IsConsistent old.by_owner → home_of old.by_owner key ≡ Some from → to < length old.by_owner.chains → gone ≡ unlinked key old.by_owner → table ≡ pushed to key gone
    → ((k : ℕ) → home_of old.by_owner k ≡ Some to → is_on (lock_at old.locks key).object.0 (lock_at old.locks k) ≡ false) → IsMoved key to old (record old { by_owner = table })
moved_chain old gone table key from to sound home seat unlinks_it pushes_it none =
    let less = unlinks from key old.by_owner gone home unlinks_it in
    let more = pushes to key gone table (subst (λ n. to < n) (sym less.same_chains) seat) (subst (λ n. key < n) (sym less.same_keys) (key_within key from old.by_owner home)) pushes_it in
    let chains = chains_without old.by_owner gone key from sound home unlinks_it in
    record {
      locks = refl;
      chain = more.chain ∙ ap (λ (l : List ℕ). l ++ key ∷ []) (chains to ∙ without_unlisted key (chain_of old.by_owner to) (listed_once old.by_owner sound key from to home differ));
      chains = λ d apart. more.chains d apart ∙ chains d;
      homes = moved_homes old.by_owner gone table key from to home seat unlinks_it pushes_it;
      seats = more.same_chains ∙ less.same_chains;
      objects = refl;
    } where
      differ : to ≡ from → ⊥
      differ is = both_ways (is_on (lock_at old.locks key).object.0 (lock_at old.locks key)) (none key (home ∙ ap (λ (n : ℕ). Some n) (sym is))) (on_from _ _ refl)

-- ---- the locks stay as they are stored
-- a lock moves to a seat without a lock on its object
module _ (old : Stored) (table : Chained) (key to : ℕ) (stored : IsStored old) (there : is_some (home_of old.by_owner key) ≡ true)
    (homes : (k : ℕ) → home_of table k ≡ cond (eqb k key) (Some to) (home_of old.by_owner k))
    (none : (k : ℕ) → home_of old.by_owner k ≡ Some to → is_on (lock_at old.locks key).object.0 (lock_at old.locks k) ≡ false) where
  -- it was somebody's
  was : (k c : ℕ) → home_of table k ≡ Some c → (d : ℕ) × (home_of old.by_owner k ≡ Some d)
  was k c home = go (home_of old.by_owner k) refl where
    go : (o : Option ℕ) → home_of old.by_owner k ≡ o → (d : ℕ) × (home_of old.by_owner k ≡ Some d)
    go (Some d) e = (d, e)
    go None e = elim (cases_Bool (eqb k key)) [
      | inl here ↦ absurd (true≢false (sym there ∙ ap (λ (n : ℕ). is_some (home_of old.by_owner n)) (sym (eqb-true k key here)) ∙ ap is_some e))
      | inr apart ↦ absurd (some_is_not_none c (sym home ∙ homes k ∙ ap (λ (b : Bool). cond b (Some to) (home_of old.by_owner k)) apart ∙ e))
    ]

  -- the seat has no other lock on the object
  lone : (j k : ℕ) → home_of table j ≡ home_of table k → eqb j key ≡ true → eqb k key ≡ false → (lock_at old.locks j).object.0 ≡ (lock_at old.locks k).object.0 → ⊥
  unfolding is_on
  lone j k seat first apart same =
      both_ways (eqb (lock_at old.locks k).object.0 (lock_at old.locks key).object.0)
      (none k (sym (homes k ∙ ap (λ (b : Bool). cond b (Some to) (home_of old.by_owner k)) apart) ∙ sym seat ∙ homes j ∙ ap (λ (b : Bool). cond b (Some to) (home_of old.by_owner j)) first))
      (eq-eqb _ _ (sym same ∙ ap (λ (n : ℕ). (lock_at old.locks n).object.0) (eqb-true j key first)))

  pub stored_moved : IsStored (record old { by_owner = table })
  stored_moved = record {
    held = λ k. elim (cases_Bool (eqb k key)) [
      | inl here ↦
          ap is_some (homes k ∙ ap (λ (b : Bool). cond b (Some to) (home_of old.by_owner k)) here)
          ∙ sym there
          ∙ ap (λ (n : ℕ). is_some (home_of old.by_owner n)) (sym (eqb-true k key here))
          ∙ stored.held k
      | inr apart ↦ ap is_some (homes k ∙ ap (λ (b : Bool). cond b (Some to) (home_of old.by_owner k)) apart) ∙ stored.held k
    ];
    listed = stored.listed;
    placed = λ k c home.
        let placed = stored.placed k (was k c home).0 (was k c home).1 in
        record { number = placed.number; numbered = placed.numbered; part = placed.part };
    lists = stored.lists;
    single = λ j k c one other same. elim (cases_Bool (eqb j key)) [
      | inl first ↦ elim (cases_Bool (eqb k key)) [
        | inl second ↦ eqb-true j key first ∙ sym (eqb-true k key second)
        | inr apart ↦ absurd (lone j k (one ∙ sym other) first apart same)
      ]
      | inr differ ↦ elim (cases_Bool (eqb k key)) [
        | inl second ↦ absurd (lone k j (other ∙ sym one) second differ (sym same))
        | inr apart ↦
            stored.single j k c (sym (homes j ∙ ap (λ (b : Bool). cond b (Some to) (home_of old.by_owner j)) differ) ∙ one)
            (sym (homes k ∙ ap (λ (b : Bool). cond b (Some to) (home_of old.by_owner k)) apart) ∙ other) same
      ]
    ];
    carry = λ k c home. stored.carry k (was k c home).0 (was k c home).1;
    apart = λ j k c d one other differ same conflict.
        let first = was j c one in
        let second = was k d other in
        elim (cases_eq first.0 second.0) [
          | inl seat ↦
              let is : j ≡ k = stored.single j k second.0 (first.1 ∙ ap (λ (n : ℕ). Some n) seat) second.1 same in
              absurd (differ (seat_one c d (sym one ∙ ap (home_of table) is ∙ other)))
          | inr apart ↦ stored.apart j k first.0 second.0 first.1 second.1 apart same conflict
        ];
  }

-- a set and another has an operation if the set has one
some_both : (own ops : OpSet) → is_some_op own ≡ true → is_some_op (both_ops own ops) ≡ true
unfolding is_some_op both_ops
some_both own ops some = go own.read own.write own.add ops.read ops.write ops.add some where
  go : (r w a read write add : Bool) → ((r || w) || a) ≡ true → (((r || read) || (w || write)) || (a || add)) ≡ true
  go r w a read write add some = grind arith

-- a lock gets the operations of another, and is suspended
pub stored_merged : (old new : Stored) (key number : ℕ) (ops : OpSet) → IsStored old → number_in old.objects (lock_at old.locks key).object.0 ≡ Some number
    → ((k : ℕ) → lock_at new.locks k ≡ cond (eqb k key) (with_ops ops (lock_at old.locks key)) (lock_at old.locks k)) → ((k : ℕ) → is_some (get new.locks k) ≡ is_some (get old.locks k))
    → IsChangedAt key (Some (part_for number (class_of (both_ops (lock_at old.locks key).ops ops)))) old.by_object new.by_object → is_some (part_of old.by_object key) ≡ true → new.by_owner ≡ old.by_owner → new.objects ≡ old.objects → IsStored new
stored_merged old new key number ops stored numbered locks keys change there of_owner objects =
    stored_written old new key number (with_ops ops (lock_at old.locks key)) stored numbered refl locks keys change there of_owner objects (some_both (lock_at old.locks key).ops ops)
    (λ j c d one other differ same conflict. and_false (lock_at old.locks j).granted)

-- ---- the locks of each seat
-- the key of another seat is not that of a lock of this one
not_listed : (store : Stored) → IsConsistent store.by_owner → (k c d : ℕ) → home_of store.by_owner k ≡ Some c → (d ≡ c → ⊥) → (j : ℕ) → lists (chain_of store.by_owner d) j ≡ true → j ≡ k → ⊥
not_listed store sound k c d home apart j there is =
    both_ways (lists (chain_of store.by_owner d) k) (listed_once store.by_owner sound k c d home apart) (ap (lists (chain_of store.by_owner d)) (sym is) ∙ there)

module _ (old new : Stored) (stored : IsStored old) (sound : IsConsistent old.by_owner) (key from to : ℕ) (home : home_of old.by_owner key ≡ Some from) (differ : from ≡ to → ⊥) where
  -- the taker had no lock on the object
  pub handed_alone : IsMoved key to old new → ((k : ℕ) → home_of old.by_owner k ≡ Some to → is_on (lock_at old.locks key).object.0 (lock_at old.locks k) ≡ false) → IsHanded key from to old new
  unfolding locks_at
  handed_alone moved none = record {
    giver = moved.chains from differ;
    kept = λ k at apart. ap (λ (s : Slab Lock). lock_at s k) moved.locks;
    taker =
        (λ i. map (lock_at (moved.locks i)) (moved.chain i))
        ∙ map-append (lock_at old.locks) (chain_of old.by_owner to) (key ∷ [])
        ∙ sym (moved_alone (lock_at old.locks key) (locks_at old to) (none_here old stored sound to (lock_at old.locks key).object none).0);
    others = λ d apart other. λ i. map (lock_at (moved.locks i)) ((moved.chains d other ∙ without_unlisted key (chain_of old.by_owner d) (listed_once old.by_owner sound key from d home apart)) i);
    seats = moved.seats;
    holders = λ k d at. elim (cases_Bool (eqb k key)) [
      | inl here ↦ inr (seat_one d to (sym at ∙ moved.homes k ∙ ap (λ (b : Bool). cond b (Some to) (home_of old.by_owner k)) here))
      | inr apart ↦ inl (sym (moved.homes k ∙ ap (λ (b : Bool). cond b (Some to) (home_of old.by_owner k)) apart) ∙ at)
    ];
    objects = moved.objects;
  }

  -- or it had one
  module _ (half : Stored) (other : ℕ) (there : home_of old.by_owner other ≡ Some to) (on : is_on (lock_at old.locks key).object.0 (lock_at old.locks other) ≡ true)
      (locks : (k : ℕ) → lock_at half.locks k ≡ cond (eqb k other) (with_ops (lock_at old.locks key).ops (lock_at old.locks other)) (lock_at old.locks k)) (of_owner : half.by_owner ≡ old.by_owner)
      (of_objects : half.objects ≡ old.objects) (dropped : IsDropped key half new) where
    chain_now : (d : ℕ) → chain_of new.by_owner d ≡ without key (chain_of old.by_owner d)
    chain_now d = dropped.chains d ∙ ap (λ (t : Chained). without key (chain_of t d)) of_owner

    same_chain : (d : ℕ) → (d ≡ from → ⊥) → chain_of new.by_owner d ≡ chain_of old.by_owner d
    same_chain d apart = chain_now d ∙ without_unlisted key (chain_of old.by_owner d) (listed_once old.by_owner sound key from d home apart)

    same_lock_at : (k : ℕ) → (k ≡ key → ⊥) → (k ≡ other → ⊥) → lock_at new.locks k ≡ lock_at old.locks k
    same_lock_at k apart unmerged = dropped.locks k apart ∙ locks k ∙ ap (λ (b : Bool). cond b (with_ops (lock_at old.locks key).ops (lock_at old.locks other)) (lock_at old.locks k)) (ne_eqb k other unmerged)

    -- the taker's lock on the object is merged, and no other is
    each_merged : (k : ℕ) → lists (chain_of old.by_owner to) k ≡ true → lock_at new.locks k ≡ merged (lock_at old.locks key ∷ []) (lock_at old.locks k)
    each_merged k listed = elim (cases_Bool (eqb k other)) [
      | inl here ↦
          let is = eqb-true k other here in
          let on_it : is_on (lock_at old.locks other).object.0 (lock_at old.locks key) ≡ true = on_from _ _ (sym (on_to _ _ on)) in
          dropped.locks k unlisted
          ∙ locks k
          ∙ ap (λ (b : Bool). cond b (with_ops (lock_at old.locks key).ops (lock_at old.locks other)) (lock_at old.locks k)) here
          ∙ ap (λ (ops : OpSet). with_ops ops (lock_at old.locks other)) (sym (ops_one (lock_at old.locks other).object.0 (lock_at old.locks key) on_it))
          ∙ sym (merged_here (lock_at old.locks key ∷ []) (lock_at old.locks other) (ap (λ (b : Bool). b || false) on_it))
          ∙ ap (λ (n : ℕ). merged (lock_at old.locks key ∷ []) (lock_at old.locks n)) (sym is)
      | inr apart ↦
          let unmerged = eqb-false k other apart in
          same_lock_at k unlisted unmerged
          ∙ sym (merged_apart (lock_at old.locks key ∷ []) (lock_at old.locks k)
          (ap (λ (b : Bool). b || false) (off_from _ _ (λ same. unmerged (stored.single k other to (sound.at_home to k listed) there (sym same ∙ sym (on_to _ _ on)))))))
    ] where
      unlisted : k ≡ key → ⊥
      unlisted = not_listed old sound key from to home (λ e. differ (sym e)) k listed

    pub handed_merged : IsHanded key from to old new
    unfolding locks_at
    handed_merged = record {
      giver = chain_now from;
      kept = λ k at apart. same_lock_at k apart (λ is. differ (seat_one from to (sym at ∙ ap (home_of old.by_owner) is ∙ there)));
      taker =
          ap (map (lock_at new.locks)) (same_chain to (λ e. differ (sym e)))
          ∙ map_same (lock_at new.locks) (λ k. merged (lock_at old.locks key ∷ []) (lock_at old.locks k)) (chain_of old.by_owner to) each_merged
          ∙ sym (fused (chain_of old.by_owner to))
          ∙ sym (moved_here (lock_at old.locks key) (locks_at old to) (found_here old stored sound to (lock_at old.locks key).object other there on).0);
      others = λ d apart unmerged.
          ap (map (lock_at new.locks)) (same_chain d apart)
          ∙ map_same (lock_at new.locks) (lock_at old.locks) (chain_of old.by_owner d) (λ k listed.
          same_lock_at k (not_listed old sound key from d home apart k listed) (not_listed old sound other to d there unmerged k listed));
      seats = dropped.seats ∙ ap (λ (t : Chained). length t.chains) of_owner;
      holders = λ k d at. elim (cases_Bool (eqb k key)) [
        | inl here ↦ absurd (some_is_not_none d (sym at ∙ dropped.homes k ∙ ap (λ (b : Bool). cond b None (home_of half.by_owner k)) here))
        | inr apart ↦ inl (ap (λ (t : Chained). home_of t k) (sym of_owner) ∙ sym (dropped.homes k ∙ ap (λ (b : Bool). cond b None (home_of half.by_owner k)) apart) ∙ at)
      ];
      objects = dropped.objects ∙ of_objects;
    } where
      fused : (keys : List ℕ) → map (merged (lock_at old.locks key ∷ [])) (map (lock_at old.locks) keys) ≡ map (λ k. merged (lock_at old.locks key ∷ []) (lock_at old.locks k)) keys
      fused [] = refl
      fused (k ∷ keys) = ap (λ (l : List Lock). merged (lock_at old.locks key ∷ []) (lock_at old.locks k) ∷ l) (fused keys)
