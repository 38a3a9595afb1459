-- A hand-over of a set that lists one object.
use Rattle.std.proofs.Common.{◌≡◌, ℕ, Bool, true, false, eqb, cond, ◌||◌, List, [], ◌∷◌, ◌++◌, map, filter, Some, refl, sym, ap, subst, ◌∙◌}
use Rattle.std.specs.List.{IsDistinct}
use Rattle.std.proofs.lemmas.Bool.{eqb-true, eq-eqb, ne_eqb, or_left, or_right, both_ways}
use Rattle.std.proofs.lemmas.List.{map-append}
use Rattle.std.proofs.lemmas.List.Elements.{filter-append}
use Rattle.asset_names.specs.declared.names.Ob.{Ob}
use Rattle.asset_names.specs.declared.sets.ObSet.{ObSet}
use Rattle.asset_names.specs.declared.sets.ObSet.TheVariants.{All, Listed}
use Rattle.asset_names.specs.Arrows as Names
use Rattle.asset_names.specs.Sets.{numbers}
use Rattle.asset_names.specs.InSet.{in_set, only_in}
use Rattle.asset_names.proofs.Common.{eqb-flip}
use Rattle.asset_chains.specs.Chained.{chain_of, home_of, ahead, behind, lists, IsConsistent}
use Rattle.asset_chains.proofs.KeyLemmas.{distinct_parts, distinct_head, listed_apart, lists-append, split_at_key}
use Rattle.asset_lock_store.specs.declared.lock.Lock.{Lock}
use Rattle.asset_lock_store.specs.LockRules.{is_on, moved, left, with_moved}
use Rattle.asset_lock_store.specs.Stored.{Stored, lock_at, locks_at, IsStored, IsHanded}
use Rattle.asset_lock_store.proofs.MergeLemmas.{nothing_moved}
use Rattle.asset_lock_store.proofs.PassLemmas.{IsPassed, all_fail, still_moving, keeps_same, gives_same}

-- what is in a set that lists one object
pub only_has : (set : ObSet) (x : Ob) → only_in set ≡ Some x → (y : ℕ) → in_set set y ≡ eqb x.0 y
unfolding only_in in_set numbers Names.lists
only_has All x only y = cc
only_has (Listed []) x only y = cc
only_has (Listed (z ∷ [])) x only y =
    let same : z ≡ x = cc in
    ap (λ (o : Ob). eqb o.0 y || false) same ∙ plain (eqb x.0 y) where
      plain : (b : Bool) → (b || false) ≡ b
      plain true = refl
      plain false = refl
only_has (Listed (z ∷ w ∷ objects)) x only y = cc

-- so the lock on it moves
pub moved_is : (set : ObSet) (x : Ob) → only_in set ≡ Some x → (lock : Lock) → moved set lock ≡ is_on x.0 lock
unfolding moved is_on
moved_is set x only lock = only_has set x only lock.object.0 ∙ eqb-flip x.0 lock.object.0

-- none of the locks at these keys moves
none_moves : (set : ObSet) (store : Stored) (keys : List ℕ) → ((k : ℕ) → lists keys k ≡ true → moved set (lock_at store.locks k) ≡ false) → filter (moved set) (map (lock_at store.locks) keys) ≡ []
none_moves set store [] stays = refl
none_moves set store (k ∷ keys) stays =
    (λ i. cond (stays k (or_left (eqb k k) (lists keys k) (eq-eqb k k refl)) i) (lock_at store.locks k ∷ filter (moved set) (map (lock_at store.locks) keys)) (filter (moved set) (map (lock_at store.locks) keys)))
    ∙ none_moves set store keys (λ j there. stays j (or_right (eqb j k) (lists keys j) there))

-- the objects of the locks that pass a test
objects_filtered : (test : Ob → Bool) (locks : List Lock) → filter test (map (λ (lock : Lock). lock.object) locks) ≡ map (λ (lock : Lock). lock.object) (filter (λ (lock : Lock). test lock.object) locks)
objects_filtered test [] = refl
objects_filtered test (lock ∷ locks) = go (test lock.object) (objects_filtered test locks) where
  go : (b : Bool) → filter test (map (λ (l : Lock). l.object) locks) ≡ map (λ (l : Lock). l.object) (filter (λ (l : Lock). test l.object) locks)
      → cond b (lock.object ∷ filter test (map (λ (l : Lock). l.object) locks)) (filter test (map (λ (l : Lock). l.object) locks)) ≡ map (λ (l : Lock). l.object) (cond b (lock ∷ filter (λ (l : Lock). test l.object) locks) (filter (λ (l : Lock). test l.object) locks))
  go true ih = ap (λ (l : List Ob). lock.object ∷ l) ih
  go false ih = ih

-- where the giver has no lock on the object, none moves
module _ (set : ObSet) (x : Ob) (only : only_in set ≡ Some x) (store : Stored) (from : ℕ) (sound : IsConsistent store.by_owner) (none : (k : ℕ) → home_of store.by_owner k ≡ Some from → is_on x.0 (lock_at store.locks k) ≡ false) where
  pub none_moving : filter (moved set) (locks_at store from) ≡ []
  unfolding locks_at
  none_moving = none_moves set store (chain_of store.by_owner from) (λ k there. moved_is set x only (lock_at store.locks k) ∙ none k (sound.at_home from k there))

  pub none_held : [] ≡ filter (λ (y : Ob). in_set set y.0) (map (λ (lock : Lock). lock.object) (locks_at store from))
  unfolding moved
  none_held = sym (objects_filtered (λ (y : Ob). in_set set y.0) (locks_at store from) ∙ ap (map (λ (lock : Lock). lock.object)) none_moving)

  pub none_kept : locks_at store from ≡ left set (locks_at store from)
  unfolding left
  none_kept = sym (all_fail (moved set) (locks_at store from) none_moving)

  pub none_given : (locks : List Lock) → locks ≡ with_moved (filter (moved set) (locks_at store from)) locks
  none_given locks = sym (ap (λ (given : List Lock). with_moved given locks) none_moving ∙ nothing_moved locks)

-- where it has one, that alone moves
module _ (set : ObSet) (x : Ob) (only : only_in set ≡ Some x) (store : Stored) (from key : ℕ) (sound : IsConsistent store.by_owner) (stored : IsStored store)
    (home : home_of store.by_owner key ≡ Some from) (on : is_on x.0 (lock_at store.locks key) ≡ true) where
  abbrev before : List ℕ
  before = ahead key (chain_of store.by_owner from)

  abbrev after : List ℕ
  after = behind key (chain_of store.by_owner from)

  split : chain_of store.by_owner from ≡ before ++ key ∷ after
  split = split_at_key key (chain_of store.by_owner from) (sound.listed from key home)

  apart : IsDistinct eqb before × IsDistinct eqb (key ∷ after) × ((j : ℕ) → lists before j ≡ true → lists (key ∷ after) j ≡ false)
  apart = distinct_parts before (key ∷ after) (subst (λ (l : List ℕ). IsDistinct eqb l) split (sound.once from))

  -- another lock of the giver is on another object
  other_stays : (k : ℕ) → lists (before ++ key ∷ after) k ≡ true → (k ≡ key → ⊥) → moved set (lock_at store.locks k) ≡ false
  unfolding is_on
  other_stays k there other =
      moved_is set x only (lock_at store.locks k)
      ∙ ne_eqb (lock_at store.locks k).object.0 x.0 (λ same. other (stored.single k key from (sound.at_home from k (ap (λ (l : List ℕ). lists l k) split ∙ there)) home (same ∙ sym (eqb-true (lock_at store.locks key).object.0 x.0 on))))

  front_stays : filter (moved set) (map (lock_at store.locks) before) ≡ []
  front_stays = none_moves set store before (λ k there. other_stays k (lists-append before (key ∷ after) k ∙ or_left (lists before k) (lists (key ∷ after) k) there)
      (λ same. both_ways (lists (key ∷ after) key) (apart.2 key (subst (λ n. lists before n ≡ true) same there)) (or_left (eqb key key) (lists after key) (eq-eqb key key refl))))

  rest_stays : filter (moved set) (map (lock_at store.locks) after) ≡ []
  rest_stays = none_moves set store after (λ k there. other_stays k (lists-append before (key ∷ after) k ∙ or_right (lists before k) (lists (key ∷ after) k) (or_right (eqb k key) (lists after k) there))
      (listed_apart after k key there (distinct_head key after apart.1)))

  passed : IsPassed set store from (Some key)
  passed = (before, key ∷ after, split, refl, front_stays)

  moves : moved set (lock_at store.locks key) ≡ true
  moves = moved_is set x only (lock_at store.locks key) ∙ on

  -- the objects of the set on which the giver has a lock
  pub one_moving : filter (moved set) (locks_at store from) ≡ lock_at store.locks key ∷ []
  unfolding locks_at
  one_moving =
      ap (λ (l : List ℕ). filter (moved set) (map (lock_at store.locks) l)) split
      ∙ ap (filter (moved set)) (map-append (lock_at store.locks) before (key ∷ after))
      ∙ filter-append (moved set) (map (lock_at store.locks) before) (map (lock_at store.locks) (key ∷ after))
      ∙ (λ i. front_stays i ++ cond (moves i) (lock_at store.locks key ∷ rest_stays i) (rest_stays i))

  pub one_held : x ∷ [] ≡ filter (λ (y : Ob). in_set set y.0) (map (λ (lock : Lock). lock.object) (locks_at store from))
  unfolding moved is_on
  one_held =
      (λ i. record { 0 = sym (eqb-true (lock_at store.locks key).object.0 x.0 on) i } ∷ [])
      ∙ sym (objects_filtered (λ (y : Ob). in_set set y.0) (locks_at store from) ∙ ap (map (λ (lock : Lock). lock.object)) one_moving)

  module _ (to : ℕ) (new : Stored) (handed : IsHanded key from to store new) where
    none_later : filter (moved set) (locks_at new from) ≡ []
    none_later = still_moving set store from key (Some key) sound passed refl stored to new handed moves ∙ rest_stays

    pub one_kept : locks_at new from ≡ left set (locks_at store from)
    unfolding left
    one_kept = sym (all_fail (moved set) (locks_at new from) none_later) ∙ keeps_same set store from key (Some key) sound passed refl stored to new handed moves

    pub one_given : locks_at new to ≡ with_moved (filter (moved set) (locks_at store from)) (locks_at store to)
    one_given =
        sym (ap (λ (given : List Lock). with_moved given (locks_at new to)) none_later ∙ nothing_moved (locks_at new to))
        ∙ gives_same set store from key (Some key) sound passed refl stored to new handed moves
