-- A walk along the locks of a seat, some of which go to another seat.
use Rattle.std.proofs.Common.{◌≡◌, ℕ, ◌<◌, Bool, true, false, eqb, not, cond, ◌||◌, List, [], ◌∷◌, ◌++◌, map, filter, length, Option, Some, None, refl, sym, ap, subst, ◌∙◌, append_assoc, inl, inr, arith}
use Rattle.std.specs.List.{list_any, IsDistinct}
use Rattle.std.proofs.lemmas.Bool.{eq-eqb, ne_eqb, cases_Bool, or_parts, or_left, or_right, both_ways}
use Rattle.std.proofs.lemmas.List.{map-append, append-nil}
use Rattle.std.proofs.lemmas.List.Elements.{filter-append}
use Rattle.asset_names.specs.declared.sets.ObSet.{ObSet}
use Rattle.asset_chains.specs.Chained.{chain_of, home_of, first_of, behind, without, lists, IsConsistent}
use Rattle.asset_chains.proofs.KeyLemmas.{distinct_head, distinct_tail, distinct_parts, listed_apart, lists-append, without_unlisted, distinct-without}
use Rattle.asset_chains.proofs.Walks.{from_key, map_same, any_none}
use Rattle.asset_lock_store.specs.declared.lock.Lock.{Lock}
use Rattle.asset_lock_store.specs.LockRules.{is_on, moved, left, with_moved}
use Rattle.asset_lock_store.specs.Stored.{Stored, lock_at, locks_at, IsStored, IsHanded}
use Rattle.asset_lock_store.proofs.MergeLemmas.{nothing_moved, moved_first}

-- ---- a key between the keys ahead and those behind
listed_here : (front rest : List ℕ) (key : ℕ) → lists (front ++ key ∷ rest) key ≡ true
listed_here front rest key = lists-append front (key ∷ rest) key ∙ or_right (lists front key) (lists (key ∷ rest) key) (or_left (eqb key key) (lists rest key) (eq-eqb key key refl))

pub behind_here : (front rest : List ℕ) (key : ℕ) → IsDistinct eqb (front ++ key ∷ rest) → behind key (front ++ key ∷ rest) ≡ rest
behind_here [] rest key distinct = rw (eq-eqb key key refl) refl
behind_here (x ∷ front) rest key distinct =
    rw (ne_eqb key x (listed_apart (front ++ key ∷ rest) key x (listed_here front rest key) (distinct_head x (front ++ key ∷ rest) distinct)))
    (behind_here front rest key (distinct_tail x (front ++ key ∷ rest) distinct))

pub without_here : (front rest : List ℕ) (key : ℕ) → IsDistinct eqb (front ++ key ∷ rest) → without key (front ++ key ∷ rest) ≡ front ++ rest
without_here [] rest key distinct = rw (eq-eqb key key refl) (without_unlisted key rest (distinct_head key rest distinct))
without_here (x ∷ front) rest key distinct =
    rw (ne_eqb key x (listed_apart (front ++ key ∷ rest) key x (listed_here front rest key) (distinct_head x (front ++ key ∷ rest) distinct)))
    (ap (λ (l : List ℕ). x ∷ l) (without_here front rest key (distinct_tail x (front ++ key ∷ rest) distinct)))

-- the keys from the first of those behind on
pub from_here : (front back : List ℕ) → IsDistinct eqb (front ++ back) → from_key (first_of back) (front ++ back) ≡ back
from_here front [] distinct = refl
from_here front (key ∷ rest) distinct = ap (λ (l : List ℕ). key ∷ l) (behind_here front rest key distinct)

pub left_of : (keys front back : List ℕ) (next : Option ℕ) → IsDistinct eqb keys → keys ≡ front ++ back → next ≡ first_of back → from_key next keys ≡ back
left_of keys front back next distinct whole is = (λ i. from_key (is i) (whole i)) ∙ from_here front back (subst (λ (l : List ℕ). IsDistinct eqb l) whole distinct)

-- ---- locks that pass a test
any_filtered : (p test : Lock → Bool) (locks : List Lock) → list_any p locks ≡ false → list_any p (filter test locks) ≡ false
any_filtered p test [] none = refl
any_filtered p test (lock ∷ locks) none = go (test lock) (or_parts (p lock) (list_any p locks) none).0 (any_filtered p test locks (or_parts (p lock) (list_any p locks) none).1) where
  go : (b : Bool) → p lock ≡ false → list_any p (filter test locks) ≡ false → list_any p (cond b (lock ∷ filter test locks) (filter test locks)) ≡ false
  go true first rest = λ i. first i || rest i
  go false first rest = rest

-- if none passes, all fail
pub all_fail : (test : Lock → Bool) (locks : List Lock) → filter test locks ≡ [] → filter (λ (lock : Lock). not (test lock)) locks ≡ locks
all_fail test [] none = refl
all_fail test (lock ∷ locks) none = go (test lock) refl (all_fail test locks) where
  some_not : (l : Lock) (ls : List Lock) → l ∷ ls ≡ [] → ⊥
  some_not l ls e = cc

  go : (b : Bool) → test lock ≡ b → (filter test locks ≡ [] → filter (λ (l : Lock). not (test l)) locks ≡ locks) → filter (λ (l : Lock). not (test l)) (lock ∷ locks) ≡ lock ∷ locks
  go true e ih = absurd (some_not (lock) (filter test locks) (sym (ap (λ (b : Bool). cond b (lock ∷ filter test locks) (filter test locks)) e) ∙ none))
  go false e ih =
      ap (λ (b : Bool). cond (not b) (lock ∷ filter (λ (l : Lock). not (test l)) locks) (filter (λ (l : Lock). not (test l)) locks)) e
      ∙ ap (λ (l : List Lock). lock ∷ l) (ih (sym (ap (λ (b : Bool). cond b (lock ∷ filter test locks) (filter test locks)) e) ∙ none))

-- ---- the walk
-- the keys of the giver that the walk has passed, none of whose locks moves, and those that are left
abbrev pub IsPassed : ObSet → Stored → ℕ → Option ℕ → Type 0
IsPassed set store from next = (front : List ℕ) × (back : List ℕ) × (chain_of store.by_owner from ≡ front ++ back) × (next ≡ first_of back) × (filter (moved set) (map (lock_at store.locks) front) ≡ [])

module _ (set : ObSet) (store : Stored) (from key : ℕ) (at : Option ℕ) (sound : IsConsistent store.by_owner) (passed : IsPassed set store from at) (here : at ≡ Some key) where
  abbrev pub rest : List ℕ
  rest = behind key (chain_of store.by_owner from)

  split : passed.1 ≡ key ∷ rest
  split = go passed.1 (sym passed.3 ∙ here) passed.2 where
    go : (back : List ℕ) → first_of back ≡ Some key → chain_of store.by_owner from ≡ passed.0 ++ back → back ≡ key ∷ behind key (chain_of store.by_owner from)
    go [] first is = cc
    go (k ∷ more) first is =
        let same : k ≡ key = cc in
        let whole : chain_of store.by_owner from ≡ passed.0 ++ key ∷ more = is ∙ ap (λ (n : ℕ). passed.0 ++ n ∷ more) same in
        (λ i. same i ∷ more) ∙ ap (λ (l : List ℕ). key ∷ l) (sym (ap (behind key) whole ∙ behind_here passed.0 more key (subst (λ (l : List ℕ). IsDistinct eqb l) whole (sound.once from))))

  pub chain_split : chain_of store.by_owner from ≡ passed.0 ++ key ∷ rest
  chain_split = passed.2 ∙ ap (λ (l : List ℕ). passed.0 ++ l) split

  distinct : IsDistinct eqb (passed.0 ++ key ∷ rest)
  distinct = subst (λ (l : List ℕ). IsDistinct eqb l) chain_split (sound.once from)

  pub key_home : home_of store.by_owner key ≡ Some from
  key_home = sound.at_home from key (ap (λ (l : List ℕ). lists l key) chain_split ∙ listed_here passed.0 rest key)

  -- one more key is passed, whose lock stays
  pub passes_one : (next : Option ℕ) → next ≡ first_of rest → moved set (lock_at store.locks key) ≡ false → IsPassed set store from next
  passes_one next is stays = (
    passed.0 ++ key ∷ [],
    rest,
    chain_split ∙ sym (append_assoc passed.0 (key ∷ []) rest),
    is,
    ap (filter (moved set)) (map-append (lock_at store.locks) passed.0 (key ∷ [])) ∙ filter-append (moved set) (map (lock_at store.locks) passed.0) (lock_at store.locks key ∷ [])
        ∙ (λ i. passed.4 i ++ cond (stays i) (lock_at store.locks key ∷ []) []),
  )

  -- and fewer are left
  were_left : from_key at (chain_of store.by_owner from) ≡ key ∷ rest
  were_left = left_of (chain_of store.by_owner from) passed.0 passed.1 at (sound.once from) passed.2 passed.3 ∙ split

  pub fewer_if_stays : (next : Option ℕ) → next ≡ first_of rest → length (from_key next (chain_of store.by_owner from)) < length (from_key at (chain_of store.by_owner from))
  fewer_if_stays next is =
      omega (arith, ap (λ (l : List ℕ). length l) (left_of (chain_of store.by_owner from) (passed.0 ++ key ∷ []) rest next (sound.once from) (chain_split ∙ sym (append_assoc passed.0 (key ∷ []) rest)) is), ap (λ (l : List ℕ). length l) were_left)

  module _ (stored : IsStored store) (to : ℕ) (new : Stored) (handed : IsHanded key from to store new) (moves : moved set (lock_at store.locks key) ≡ true) where
    chain_left : chain_of new.by_owner from ≡ passed.0 ++ rest
    chain_left = handed.giver ∙ ap (without key) chain_split ∙ without_here passed.0 rest key distinct

    -- the key is not among the others
    unlisted : lists (passed.0 ++ rest) key ≡ false
    unlisted =
        let parts = distinct_parts passed.0 (key ∷ rest) distinct in
        lists-append passed.0 rest key ∙ (λ i. front_without parts.2 i || distinct_head key rest parts.1 i) where
          front_without : ((j : ℕ) → lists passed.0 j ≡ true → lists (key ∷ rest) j ≡ false) → lists passed.0 key ≡ false
          front_without apart = elim (cases_Bool (lists passed.0 key)) [
            | inl there ↦ absurd (both_ways (lists (key ∷ rest) key) (apart key there) (or_left (eqb key key) (lists rest key) (eq-eqb key key refl)))
            | inr absent ↦ absent
          ]

    old_home : (k : ℕ) → lists (passed.0 ++ rest) k ≡ true → home_of store.by_owner k ≡ Some from
    old_home k there = sound.at_home from k (ap (λ (l : List ℕ). lists l k) chain_split ∙ lists-append passed.0 (key ∷ rest) k ∙ later (lists passed.0 k) (eqb k key) (lists rest k) (sym (lists-append passed.0 rest k) ∙ there)) where
      later : (a b c : Bool) → (a || c) ≡ true → (a || (b || c)) ≡ true
      later true b c h = refl
      later false true c h = refl
      later false false c h = h

    same_there : (k : ℕ) → lists (passed.0 ++ rest) k ≡ true → lock_at new.locks k ≡ lock_at store.locks k
    same_there k there = handed.kept k (old_home k there) (λ is. both_ways (lists (passed.0 ++ rest) key) unlisted (ap (lists (passed.0 ++ rest)) (sym is) ∙ there))

    locks_left : locks_at new from ≡ map (lock_at store.locks) passed.0 ++ map (lock_at store.locks) rest
    unfolding locks_at
    locks_left = ap (map (lock_at new.locks)) chain_left ∙ map_same (lock_at new.locks) (lock_at store.locks) (passed.0 ++ rest) same_there ∙ map-append (lock_at store.locks) passed.0 rest

    locks_split : locks_at store from ≡ map (lock_at store.locks) passed.0 ++ lock_at store.locks key ∷ map (lock_at store.locks) rest
    unfolding locks_at
    locks_split = ap (map (lock_at store.locks)) chain_split ∙ map-append (lock_at store.locks) passed.0 (key ∷ rest)

    front_same : map (lock_at new.locks) passed.0 ≡ map (lock_at store.locks) passed.0
    front_same = map_same (lock_at new.locks) (lock_at store.locks) passed.0 (λ k there. same_there k (lists-append passed.0 rest k ∙ or_left (lists passed.0 k) (lists rest k) there))

    pub passes_moved : (next : Option ℕ) → next ≡ first_of rest → IsPassed set new from next
    passes_moved next is = (passed.0, rest, chain_left, is, ap (filter (moved set)) front_same ∙ passed.4)

    pub fewer_if_moved : (next : Option ℕ) → next ≡ first_of rest → length (from_key next (chain_of new.by_owner from)) < length (from_key at (chain_of store.by_owner from))
    fewer_if_moved next is =
        omega (arith, ap (λ (l : List ℕ). length l) (left_of (chain_of new.by_owner from) passed.0 rest next (subst (λ (l : List ℕ). IsDistinct eqb l) (sym handed.giver) (distinct-without key (chain_of store.by_owner from) (sound.once from))) chain_left is), ap (λ (l : List ℕ). length l) were_left)

    -- the giver keeps the same
    pub keeps_same : left set (locks_at new from) ≡ left set (locks_at store from)
    unfolding left
    keeps_same =
        ap (filter stays) locks_left
        ∙ filter-append stays (map (lock_at store.locks) passed.0) (map (lock_at store.locks) rest)
        ∙ ap (λ (b : Bool). filter stays (map (lock_at store.locks) passed.0) ++ cond (not b) (lock_at store.locks key ∷ filter stays (map (lock_at store.locks) rest)) (filter stays (map (lock_at store.locks) rest))) (sym moves)
        ∙ sym (filter-append stays (map (lock_at store.locks) passed.0) (lock_at store.locks key ∷ map (lock_at store.locks) rest))
        ∙ ap (filter stays) (sym locks_split) where
          stays : Lock → Bool
          stays lock = not (moved set lock)

    pub still_moving : filter (moved set) (locks_at new from) ≡ filter (moved set) (map (lock_at store.locks) rest)
    still_moving =
        ap (filter (moved set)) locks_left ∙ filter-append (moved set) (map (lock_at store.locks) passed.0) (map (lock_at store.locks) rest)
        ∙ ap (λ (l : List Lock). l ++ filter (moved set) (map (lock_at store.locks) rest)) passed.4

    pub was_moving : filter (moved set) (locks_at store from) ≡ lock_at store.locks key ∷ filter (moved set) (map (lock_at store.locks) rest)
    was_moving =
        ap (filter (moved set)) locks_split
        ∙ filter-append (moved set) (map (lock_at store.locks) passed.0) (lock_at store.locks key ∷ map (lock_at store.locks) rest)
        ∙ (λ i. passed.4 i ++ cond (moves i) (lock_at store.locks key ∷ filter (moved set) (map (lock_at store.locks) rest)) (filter (moved set) (map (lock_at store.locks) rest)))

    -- no other lock of the giver is on its object
    others_off : list_any (is_on (lock_at store.locks key).object.0) (map (lock_at store.locks) rest) ≡ false
    unfolding is_on
    others_off = any_none (is_on (lock_at store.locks key).object.0) (lock_at store.locks) rest (λ k there.
        let in_both : lists (passed.0 ++ rest) k ≡ true = lists-append passed.0 rest k ∙ or_right (lists passed.0 k) (lists rest k) there in
        ne_eqb _ _ (λ same. both_ways (lists (passed.0 ++ rest) key) unlisted (ap (lists (passed.0 ++ rest)) (sym (stored.single k key from (old_home k in_both) key_home same)) ∙ in_both)))

    -- and in the end the taker has the same
    pub gives_same : with_moved (filter (moved set) (locks_at new from)) (locks_at new to) ≡ with_moved (filter (moved set) (locks_at store from)) (locks_at store to)
    gives_same =
        (λ i. with_moved (still_moving i) (handed.taker i))
        ∙ sym (moved_first (lock_at store.locks key) (filter (moved set) (map (lock_at store.locks) rest)) (locks_at store to)
        (any_filtered (is_on (lock_at store.locks key).object.0) (moved set) (map (lock_at store.locks) rest) others_off))
        ∙ ap (λ (given : List Lock). with_moved given (locks_at store to)) (sym was_moving)

-- ---- at the end
module _ (set : ObSet) (store : Stored) (from : ℕ) (at : Option ℕ) (passed : IsPassed set store from at) (ends : at ≡ None) where
  all_passed : filter (moved set) (locks_at store from) ≡ []
  unfolding locks_at
  all_passed = ap (λ (l : List ℕ). filter (moved set) (map (lock_at store.locks) l)) (passed.2 ∙ ap (λ (l : List ℕ). passed.0 ++ l) (none_left passed.1 (sym passed.3 ∙ ends)) ∙ append-nil passed.0) ∙ passed.4 where
    none_left : (back : List ℕ) → first_of back ≡ None → back ≡ []
    none_left [] e = refl
    none_left (k ∷ back) e = cc

  pub all_kept : left set (locks_at store from) ≡ locks_at store from
  unfolding left
  all_kept = all_fail (moved set) (locks_at store from) all_passed

  pub all_given : (locks : List Lock) → with_moved (filter (moved set) (locks_at store from)) locks ≡ locks
  all_given locks = ap (λ (given : List Lock). with_moved given locks) all_passed ∙ nothing_moved locks
