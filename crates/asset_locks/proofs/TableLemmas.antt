-- The rows of the table, by the seats of those who are enrolled.
use Rattle.std.proofs.Common.{◌≡◌, ℕ, ◌<◌, ◌-◌, ◌≤◌, Bool, true, false, eqb, not, cond, ◌&&◌, List, [], ◌∷◌, ◌++◌, map, filter, length, get_or, set, Option, Some, None, is_some, ◌⊎◌, refl, sym, ap, subst, ◌∙◌, inl, inr, arith}
use Rattle.std.specs.Prelude.{find, flat_map, slice_get}
use Rattle.std.specs.List.{list_any, IsDistinct}
use Rattle.std.proofs.lemmas.Bool.{eqb-true, eqb-false, eq-eqb, ne_eqb, true≢false, cases_Bool, and_parts, and_from, or_left, or_right, or_parts, false_from_ne_true}
use Rattle.std.proofs.lemmas.List.{map-append, get_or-set_same, get_or-set_other, length-set}
use Rattle.asset_names.specs.declared.names.Txn.{Txn}
use Rattle.asset_names.specs.declared.names.Ob.{Ob}
use Rattle.asset_names.specs.declared.operations.Op.{Op}
use Rattle.asset_names.specs.OpSets.{OpSet}
use Rattle.asset_names.proofs.Common.{one_txn, some_of, some_is_not_none}
use Rattle.asset_chains.specs.Chained.{Chained, chain_of, home_of, lists, without, unlinked, IsConsistent}
use Rattle.asset_chains.proofs.Laws.{IsPushed, read_more, unlinks, unlinks_nothing}
use Rattle.asset_chains.proofs.SoundLemmas.{no_home_of, no_chain_of}
use Rattle.asset_chains.proofs.KeyLemmas.{distinct_none, without_unlisted}
use Rattle.asset_chains.proofs.Walks.{homes_without, map_same, find_key, find_none, find_found, any_found, any_from, any_none, distinct_map}
use Rattle.asset_seats.specs.Seated.{Seated, seat}
use Rattle.asset_lock_store.specs.declared.lock.Lock.{Lock}
use Rattle.asset_locks.specs.LockTable.{Enrolled, LockTable, PendingRequest, names_in, enrolled_in, locks_or_none, locks_of, lock_in, held_in, is_free_in, enrol_in, release_in, waiting_row, wait_in, granted_row, grant_in, waiting_at, waiters_in}
use Rattle.asset_lock_store.specs.LockRules.{is_on, both_conflict, blocks, ops_with, granted_own, suspended, is_some_op}
use Rattle.asset_locks.specs.Valid.{IsValid}
use Rattle.asset_lock_store.specs.Stored.{Stored, lock_at, locks_at, IsStored, IsGrown}
use Rattle.asset_locks.specs.Tied.{name_or_zero, pending_at, row_at, rows_of, AreSeated, IsRoomMade, LockParts, IsTied}
use Rattle.asset_locks.specs.Blocking.{is_blocker_in, request_of, request_in}
use Rattle.asset_lock_store.proofs.GrantLemmas.{grown_same}
use Rattle.asset_lock_store.proofs.WalkLemmas.{get_first, get_later}
use Rattle.asset_lock_store.proofs.LockLemmas.{on_to, on_from}
use Rattle.asset_lock_store.proofs.BlockLemmas.{absent_unnumbered}
use Rattle.asset_names.specs.Numbered.{number_in}

-- one map after another
pub fused : {X Y : Type 0} (f : ℕ → X) (g : X → Y) (keys : List ℕ) → map g (map f keys) ≡ map (λ k. g (f k)) keys
fused f g [] = refl
fused f g (k ∷ keys) = ap (λ l. g (f k) ∷ l) (fused f g keys)

pub remapped : {X : Type 0} (new old : ℕ → X) (g : X → X) (keys : List ℕ) → ((k : ℕ) → lists keys k ≡ true → new k ≡ g (old k)) → map new keys ≡ map g (map old keys)
remapped new old g keys each = map_same new (λ k. g (old k)) keys each ∙ sym (fused old g keys)

-- what passes a test, by keys without one
pub filtered : {X : Type 0} (new old : ℕ → X) (test : X → Bool) (c : ℕ) (keys : List ℕ) → test (old c) ≡ false → ((k : ℕ) → lists keys k ≡ true → (k ≡ c → ⊥) → (test (old k) ≡ true) × (new k ≡ old k)) → map new (without c keys) ≡ filter test (map old keys)
filtered new old test c [] gone stay = refl
filtered new old test c (k ∷ keys) gone stay =
    let rest = filtered new old test c keys gone (λ j there apart. stay j (or_right (eqb j k) (lists keys j) there) apart) in
    elim (cases_Bool (eqb c k)) [
      | inl here ↦
          ap (λ (b : Bool). map new (cond b (without c keys) (k ∷ without c keys))) here
          ∙ rest
          ∙ sym (ap (λ (b : Bool). cond b (old k ∷ filter test (map old keys)) (filter test (map old keys))) (ap (λ n. test (old n)) (sym (eqb-true c k here)) ∙ gone))
      | inr apart ↦
          let at = stay k (or_left (eqb k k) (lists keys k) (eq-eqb k k refl)) (λ is. eqb-false c k apart (sym is)) in
          ap (λ (b : Bool). map new (cond b (without c keys) (k ∷ without c keys))) apart
          ∙ (λ i. at.1 i ∷ rest i)
          ∙ sym (ap (λ (b : Bool). cond b (old k ∷ filter test (map old keys)) (filter test (map old keys))) at.0)
    ]

pub all_pass : {X : Type 0} (f : ℕ → X) (test : X → Bool) (keys : List ℕ) → ((k : ℕ) → lists keys k ≡ true → test (f k) ≡ true) → map f keys ≡ filter test (map f keys)
all_pass f test [] pass = refl
all_pass f test (k ∷ keys) pass =
    (λ i. f k ∷ all_pass f test keys (λ j there. pass j (or_right (eqb j k) (lists keys j) there)) i)
    ∙ sym (ap (λ (b : Bool). cond b (f k ∷ filter test (map f keys)) (filter test (map f keys))) (pass k (or_left (eqb k k) (lists keys k) (eq-eqb k k refl))))

pub none_listed : (keys : List ℕ) → ((k : ℕ) → lists keys k ≡ true → ⊥) → keys ≡ []
none_listed [] none = refl
none_listed (k ∷ keys) none = absurd (none k (or_left (eqb k k) (lists keys k) (eq-eqb k k refl)))

-- a pending request is noted
pub pending_set : (pending : List PendingRequest) (c : ℕ) (request : PendingRequest) → c < length pending → (d : ℕ) → pending_at (set pending c request) d ≡ cond (eqb d c) request (pending_at pending d)
unfolding pending_at
pending_set pending c request within d = elim (cases_Bool (eqb d c)) [
  | inl here ↦ rw here (ap (λ (n : ℕ). get_or (set pending c request) n None) (eqb-true d c here) ∙ get_or-set_same pending c request None within)
  | inr apart ↦ rw apart (get_or-set_other pending c d request None (eqb-false d c apart))
]

-- ---- who is enrolled
module _ (seats : Seated) (pending : List PendingRequest) (order : Chained) (store : Stored) (seated : AreSeated seats pending order store) (sound : IsConsistent order) where
  rows : LockTable
  rows = rows_of seats pending order store

  -- who is in the chain of enrolment has a seat
  pub sits_at : (c : ℕ) → lists (chain_of order 0) c ≡ true → (t : Txn) × (seat seats c ≡ Some t)
  sits_at c there = some_of (seat seats c) (seated.enrolled c 0 (sound.at_home 0 c there)).1

  -- a seat is in the chain of enrolment or in none
  pub enrolled_or_not : (c : ℕ) → (home_of order c ≡ Some 0) ⊎ (home_of order c ≡ None)
  enrolled_or_not c = go (home_of order c) refl where
    go : (o : Option ℕ) → home_of order c ≡ o → (home_of order c ≡ Some 0) ⊎ (home_of order c ≡ None)
    go None e = inr e
    go (Some d) e = inl (e ∙ ap Some (seated.enrolled c d e).0)

  pub row_name : (c : ℕ) (t : Txn) → seat seats c ≡ Some t → (row_at seats pending store c).name ≡ t.0
  unfolding row_at name_or_zero
  row_name c t sits = ap name_or_zero sits

  -- a seat is found by its name
  pub named_seat : (c d : ℕ) (t : Txn) → seat seats c ≡ Some t → lists (chain_of order 0) d ≡ true → (row_at seats pending store d).name ≡ t.0 → d ≡ c
  named_seat c d t sits there name =
      let other = sits_at d there in
      seated.single d c t (other.1 ∙ ap Some (one_txn other.0 t (sym (row_name d other.0 other.1) ∙ name))) sits

  pub other_name : (c d : ℕ) (t : Txn) → seat seats c ≡ Some t → lists (chain_of order 0) d ≡ true → (d ≡ c → ⊥) → eqb (row_at seats pending store d).name t.0 ≡ false
  other_name c d t sits there apart = ne_eqb _ _ (λ name. apart (named_seat c d t sits there name))

  pub own_name : (c : ℕ) (t : Txn) → seat seats c ≡ Some t → eqb (row_at seats pending store c).name t.0 ≡ true
  own_name c t sits = eq-eqb _ _ (row_name c t sits)

  -- the row of one who is enrolled
  pub enrolled_at : (c : ℕ) (t : Txn) → seat seats c ≡ Some t → home_of order c ≡ Some 0 → enrolled_in (rows_of seats pending order store) t.0 ≡ Some (row_at seats pending store c)
  unfolding enrolled_in rows_of
  enrolled_at c t sits home = find_key (λ (who : Enrolled). eqb who.name t.0) (row_at seats pending store) (chain_of order 0) c (sound.listed 0 c home) (own_name c t sits) (λ d there name. named_seat c d t sits there (eqb-true _ _ name))

  -- one who is in no seat of the chain is not enrolled
  pub absent_name : (t : Txn) → ((c : ℕ) → home_of order c ≡ Some 0 → seat seats c ≡ Some t → ⊥) → (d : ℕ) → lists (chain_of order 0) d ≡ true → eqb (row_at seats pending store d).name t.0 ≡ false
  absent_name t absent d there =
      let other = sits_at d there in
      ne_eqb _ _ (λ name. absent d (sound.at_home 0 d there) (other.1 ∙ ap Some (one_txn other.0 t (sym (row_name d other.0 other.1) ∙ name))))

  pub not_enrolled : (t : Txn) → ((c : ℕ) → home_of order c ≡ Some 0 → seat seats c ≡ Some t → ⊥) → enrolled_in (rows_of seats pending order store) t.0 ≡ None
  unfolding enrolled_in rows_of
  not_enrolled t absent = find_none (λ (who : Enrolled). eqb who.name t.0) (row_at seats pending store) (chain_of order 0) (absent_name t absent)

  -- one whose seat is in no chain is in no seat of the chain
  pub not_in_order : (c : ℕ) (t : Txn) → seat seats c ≡ Some t → home_of order c ≡ None → (d : ℕ) → home_of order d ≡ Some 0 → seat seats d ≡ Some t → ⊥
  not_in_order c t sits out d home there = some_is_not_none 0 (sym home ∙ ap (home_of order) (seated.single d c t there sits) ∙ out)

  -- whether the row of one who has a seat is there says whether the seat is in the chain
  pub home_if_enrolled : (c : ℕ) (t : Txn) → seat seats c ≡ Some t → is_some (enrolled_in (rows_of seats pending order store) t.0) ≡ true → home_of order c ≡ Some 0
  home_if_enrolled c t sits enrolled = elim (enrolled_or_not c) [
    | inl home ↦ home
    | inr out ↦ absurd (true≢false (sym enrolled ∙ ap is_some (not_enrolled t (not_in_order c t sits out))))
  ]

  -- a row is somebody's who has a seat
  pub row_found : (n : ℕ) (who : Enrolled) → enrolled_in (rows_of seats pending order store) n ≡ Some who → (c : ℕ) × (t : Txn) × (seat seats c ≡ Some t) × (t.0 ≡ n) × (row_at seats pending store c ≡ who)
  unfolding enrolled_in rows_of
  row_found n who found =
      let at = find_found (λ (who : Enrolled). eqb who.name n) (row_at seats pending store) (chain_of order 0) who found in
      let sits = sits_at at.0 at.1 in
      (at.0, sits.0, sits.1, sym (row_name at.0 sits.0 sits.1) ∙ eqb-true _ _ at.2, at.3)

  -- its request that waits
  pub request_of_seat : (c : ℕ) (t : Txn) → seat seats c ≡ Some t → is_some (enrolled_in (rows_of seats pending order store) t.0) ≡ true → request_in (rows_of seats pending order store) t.0 ≡ pending_at pending c
  unfolding request_in request_of row_at
  request_of_seat c t sits there = elim (enrolled_or_not c) [
    | inl home ↦ ap request_of (enrolled_at c t sits home)
    | inr out ↦ absurd (true≢false (sym there ∙ ap is_some (not_enrolled t (not_in_order c t sits out))))
  ]

  -- its locks
  pub locks_of_enrolled : (c : ℕ) (t : Txn) → seat seats c ≡ Some t → home_of order c ≡ Some 0 → locks_of (rows_of seats pending order store) t.0 ≡ locks_at store c
  unfolding locks_of locks_or_none row_at
  locks_of_enrolled c t sits home = ap locks_or_none (enrolled_at c t sits home)

  pub no_locks_of : (t : Txn) → ((c : ℕ) → home_of order c ≡ Some 0 → seat seats c ≡ Some t → ⊥) → locks_of (rows_of seats pending order store) t.0 ≡ []
  unfolding locks_of locks_or_none
  no_locks_of t absent = ap locks_or_none (not_enrolled t absent)

  -- a seat that is in no chain has no locks
  pub nothing_held : IsConsistent store.by_owner → (c : ℕ) → home_of order c ≡ None → locks_at store c ≡ []
  unfolding locks_at
  nothing_held owners c out = ap (map (lock_at store.locks)) (none_listed (chain_of store.by_owner c) (λ k there. some_is_not_none 0 (sym (seated.holders c k (owners.at_home c k there)) ∙ out)))

  -- the locks of one who has a seat
  pub locks_of_seat : IsConsistent store.by_owner → (c : ℕ) (t : Txn) → seat seats c ≡ Some t → locks_of (rows_of seats pending order store) t.0 ≡ locks_at store c
  locks_of_seat owners c t sits = elim (enrolled_or_not c) [
    | inl home ↦ locks_of_enrolled c t sits home
    | inr out ↦ no_locks_of t (not_in_order c t sits out) ∙ sym (nothing_held owners c out)
  ]

  pub lock_of_seat : IsConsistent store.by_owner → (c : ℕ) (t : Txn) (x : ℕ) → seat seats c ≡ Some t → lock_in (rows_of seats pending order store) t.0 x ≡ find (is_on x) (locks_at store c)
  unfolding lock_in
  lock_of_seat owners c t x sits = ap (find (is_on x)) (locks_of_seat owners c t sits)

  -- ---- what holds of each table
  module _ (stored : IsStored store) (owners : IsConsistent store.by_owner) where
    -- a lock that is found is one of the slab
    lock_found : (n x : ℕ) (lock : Lock) → lock_in (rows_of seats pending order store) n x ≡ Some lock
        → (k : ℕ) × (c : ℕ) × (t : Txn) × (seat seats c ≡ Some t) × (t.0 ≡ n) × (home_of store.by_owner k ≡ Some c) × (lock_at store.locks k ≡ lock) × (lock.object.0 ≡ x)
    unfolding lock_in locks_of locks_or_none row_at locks_at
    lock_found n x lock found = go (enrolled_in (rows_of seats pending order store) n) refl where
      go : (o : Option Enrolled) → enrolled_in (rows_of seats pending order store) n ≡ o
          → (k : ℕ) × (c : ℕ) × (t : Txn) × (seat seats c ≡ Some t) × (t.0 ≡ n) × (home_of store.by_owner k ≡ Some c) × (lock_at store.locks k ≡ lock) × (lock.object.0 ≡ x)
      go None e = absurd (some_is_not_none lock (sym found ∙ ap (λ (o : Option Enrolled). find (is_on x) (locks_or_none o)) e))
      go (Some who) e =
          let at = row_found n who e in
          let there = find_found (is_on x) (lock_at store.locks) (chain_of store.by_owner at.0) lock (ap (λ (w : Enrolled). find (is_on x) w.locks) at.4 ∙ sym (ap (λ (o : Option Enrolled). find (is_on x) (locks_or_none o)) e) ∙ found) in
          (there.0, at.0, at.1, at.2, at.3, owners.at_home at.0 there.0 there.1, there.3, ap (λ (l : Lock). l.object.0) (sym there.3) ∙ on_to x _ there.2)

    -- nobody has a lock on an object without a number
    pub none_without_number : (n x : ℕ) → number_in store.objects x ≡ None → lock_in (rows_of seats pending order store) n x ≡ None
    none_without_number n x none = go (lock_in (rows_of seats pending order store) n x) refl where
      go : (o : Option Lock) → lock_in (rows_of seats pending order store) n x ≡ o → lock_in (rows_of seats pending order store) n x ≡ None
      go None e = e
      go (Some lock) e =
          let found = lock_found n x lock e in
          let on : is_on x (lock_at store.locks found.0) ≡ true = on_from x _ (ap (λ (l : Lock). l.object.0) found.6 ∙ found.7) in
          absurd (true≢false (sym on ∙ absent_unnumbered store stored x none found.0 found.1 found.5))

    names_distinct : IsDistinct eqb (names_in (rows_of seats pending order store))
    unfolding names_in rows_of
    names_distinct =
        subst (λ (l : List ℕ). IsDistinct eqb l) (sym (fused (row_at seats pending store) (λ (who : Enrolled). who.name) (chain_of order 0)))
        (distinct_map (λ (c : ℕ). (row_at seats pending store c).name) (chain_of order 0) (sound.once 0) (λ c d here there same.
        let other = sits_at d there in named_seat d c other.0 other.1 here (same ∙ row_name d other.0 other.1)))

    objects_distinct : (n : ℕ) → IsDistinct eqb (map (λ (x : Ob). x.0) (held_in (rows_of seats pending order store) n))
    unfolding held_in locks_of locks_or_none row_at locks_at
    objects_distinct n = go (enrolled_in (rows_of seats pending order store) n) refl where
      go : (o : Option Enrolled) → enrolled_in (rows_of seats pending order store) n ≡ o → IsDistinct eqb (map (λ (x : Ob). x.0) (map (λ (lock : Lock). lock.object) (locks_or_none (enrolled_in (rows_of seats pending order store) n))))
      go None e = subst (λ (o : Option Enrolled). IsDistinct eqb (map (λ (x : Ob). x.0) (map (λ (lock : Lock). lock.object) (locks_or_none o)))) (sym e) distinct_none
      go (Some who) e =
          let at = row_found n who e in
          subst (λ (o : Option Enrolled). IsDistinct eqb (map (λ (x : Ob). x.0) (map (λ (lock : Lock). lock.object) (locks_or_none o)))) (sym e)
          (subst (λ (w : Enrolled). IsDistinct eqb (map (λ (x : Ob). x.0) (map (λ (lock : Lock). lock.object) w.locks))) at.4
          (subst (λ (l : List Ob). IsDistinct eqb (map (λ (x : Ob). x.0) l)) (sym (fused (lock_at store.locks) (λ (lock : Lock). lock.object) (chain_of store.by_owner at.0)))
          (subst (λ (l : List ℕ). IsDistinct eqb l) (sym (fused (λ (k : ℕ). (lock_at store.locks k).object) (λ (x : Ob). x.0) (chain_of store.by_owner at.0)))
          (distinct_map (λ (k : ℕ). (lock_at store.locks k).object.0) (chain_of store.by_owner at.0) (owners.once at.0)
          (λ j k here there same. stored.single j k at.0 (owners.at_home at.0 j here) (owners.at_home at.0 k there) same)))))

    pub rows_valid : IsValid (rows_of seats pending order store)
    rows_valid = record {
      names = names_distinct;
      objects = objects_distinct;
      carry = λ n x lock found.
          let at = lock_found n x lock found in
          ap (λ (l : Lock). is_some_op l.ops) (sym at.6) ∙ stored.carry at.0 at.1 at.5;
      apart = λ n m x lock other differ first second conflict.
          let one = lock_found n x lock first in
          let two = lock_found m x other second in
          (λ i. (sym one.6 i).granted && (sym two.6 i).granted)
          ∙ stored.apart one.0 two.0 one.1 two.1 one.5 two.5
          (λ same. differ (sym one.4 ∙ name_same one.1 two.1 one.2 two.2 same one.3 two.3 ∙ two.4))
          (ap (λ (l : Lock). l.object.0) one.6 ∙ one.7 ∙ sym two.7 ∙ ap (λ (l : Lock). l.object.0) (sym two.6))
          ((λ i. both_conflict (one.6 i).ops (two.6 i).ops) ∙ conflict);
    } where
      name_same : (c d : ℕ) (t u : Txn) → c ≡ d → seat seats c ≡ Some t → seat seats d ≡ Some u → t.0 ≡ u.0
      name_same c d t u same here there = let e : Some t ≡ Some u = sym here ∙ ap (seat seats) same ∙ there in let is : t ≡ u = cc in ap (λ (n : Txn). n.0) is

-- ---- whether a seat is in the chain
pub home_if_some : (seats : Seated) (pending : List PendingRequest) (order : Chained) (store : Stored) → AreSeated seats pending order store → IsConsistent order → (c : ℕ) → is_some (home_of order c) ≡ true → home_of order c ≡ Some 0
home_if_some seats pending order store seated sound c there = elim (enrolled_or_not seats pending order store seated sound c) [
  | inl home ↦ home
  | inr out ↦ absurd (true≢false (sym there ∙ ap is_some out))
]

pub out_if_none : (order : Chained) (c : ℕ) → is_some (home_of order c) ≡ false → home_of order c ≡ None
out_if_none order c none = go (home_of order c) none where
  go : (o : Option ℕ) → is_some o ≡ false → o ≡ None
  go None e = refl
  go (Some d) e = absurd (true≢false e)

-- the parts of the table inside are tied as those that it shows
pub tied_inside : (pending : List PendingRequest) (order : Chained) (store : Stored) (table : LockParts) (seats : Seated) → record { pending = pending; order = order; store = store } ≡ table → IsTied table seats → AreSeated seats pending order store
tied_inside pending order store table seats is tied = subst (λ (v : LockParts). IsTied v seats) (sym is) tied

-- ---- a seat goes out of the chain of enrolment
pub record IsOut (c : ℕ) (old new : Chained) : Type 0 where
  pub chain : chain_of new 0 ≡ without c (chain_of old 0)
  pub homes : (d : ℕ) → home_of new d ≡ cond (eqb d c) None (home_of old d)
  pub chains : length new.chains ≡ length old.chains
  pub keys : length new.homes ≡ length old.homes

pub goes_out : (order left : Chained) (c : ℕ) → IsConsistent order → (home_of order c ≡ Some 0) ⊎ (home_of order c ≡ None) → left ≡ unlinked c order → IsOut c order left
goes_out order left c sound (inl home) is =
    let less = unlinks 0 c order left home is in
    record { chain = less.chain; homes = homes_without order left c 0 home is; chains = less.same_chains; keys = less.same_keys }
goes_out order left c sound (inr out) is = record {
  chain = ap (λ (o : Chained). chain_of o 0) same ∙ sym (without_unlisted c (chain_of order 0) (false_from_ne_true _ (λ there. some_is_not_none 0 (sym (sound.at_home 0 c there) ∙ out))));
  homes = λ d. ap (λ (o : Chained). home_of o d) same ∙ stays d;
  chains = ap (λ (o : Chained). length o.chains) same;
  keys = ap (λ (o : Chained). length o.homes) same;
} where
  same : left ≡ order
  same = is ∙ unlinks_nothing c order out

  stays : (d : ℕ) → home_of order d ≡ cond (eqb d c) None (home_of order d)
  stays d = elim (cases_Bool (eqb d c)) [
    | inl here ↦ ap (home_of order) (eqb-true d c here) ∙ out ∙ sym (ap (λ (b : Bool). cond b None (home_of order d)) here)
    | inr apart ↦ sym (ap (λ (b : Bool). cond b None (home_of order d)) apart)
  ]

pub gone_out : (order left : Chained) (c : ℕ) → IsOut c order left → home_of left c ≡ None
gone_out order left c out = out.homes c ∙ ap (λ (b : Bool). cond b None (home_of order c)) (eq-eqb c c refl)

-- ---- changes of the table
-- the rows as they change with what is kept by seat
pub rows_change : (seats : Seated) (pending later : List PendingRequest) (order : Chained) (store new : Stored) (change : Enrolled → Enrolled)
    → ((c : ℕ) → lists (chain_of order 0) c ≡ true → row_at seats later new c ≡ change (row_at seats pending store c)) → rows_of seats later order new ≡ map change (rows_of seats pending order store)
unfolding rows_of
rows_change seats pending later order store new change each = remapped (row_at seats later new) (row_at seats pending store) change (chain_of order 0) each

module _ (seats : Seated) (pending : List PendingRequest) (order : Chained) (store : Stored) (seated : AreSeated seats pending order store) (sound : IsConsistent order) (c : ℕ) (t : Txn) (sits : seat seats c ≡ Some t) where
  request_place : c < length pending
  request_place = (seated.places c t sits).request

  -- t's request waits
  pub waits : (x : Ob) (op : Op) → rows_of seats (set pending c (Some (x, op))) order store ≡ wait_in t.0 x op (rows_of seats pending order store)
  unfolding wait_in waiting_row row_at
  waits x op = rows_change seats pending (set pending c (Some (x, op))) order store store (waiting_row t.0 x op) (λ d there. elim (cases_Bool (eqb d c)) [
    | inl here ↦
        let is = eqb-true d c here in
        ap (λ (p : PendingRequest). record (row_at seats pending store d) { pending = p }) (pending_set pending c (Some (x, op)) request_place d ∙ ap (λ (b : Bool). cond b (Some (x, op)) (pending_at pending d)) here)
        ∙ sym (ap (λ (b : Bool). cond b (record (row_at seats pending store d) { pending = Some (x, op) }) (row_at seats pending store d)) (ap (λ (n : ℕ). eqb (row_at seats pending store n).name t.0) is ∙ own_name seats pending order store seated sound c t sits))
    | inr apart ↦
        ap (λ (p : PendingRequest). record (row_at seats pending store d) { pending = p }) (pending_set pending c (Some (x, op)) request_place d ∙ ap (λ (b : Bool). cond b (Some (x, op)) (pending_at pending d)) apart)
        ∙ sym (ap (λ (b : Bool). cond b (record (row_at seats pending store d) { pending = Some (x, op) }) (row_at seats pending store d)) (other_name seats pending order store seated sound c d t sits there (eqb-false d c apart)))
  ])

  -- op on x is granted to t
  pub grants : IsConsistent store.by_owner → (new : Stored) (x : Ob) (op : Op) → locks_at new c ≡ granted_own x op (locks_at store c)
      → ((d : ℕ) → (d ≡ c → ⊥) → locks_at new d ≡ map (suspended x.0 (ops_with op (find (is_on x.0) (locks_at store c)))) (locks_at store d))
      → rows_of seats (set pending c None) order new ≡ grant_in t.0 x op (rows_of seats pending order store)
  unfolding grant_in granted_row row_at
  grants owners new x op own others =
      rows_change seats pending (set pending c None) order store new (granted_row t.0 x op ops) (λ d there. elim (cases_Bool (eqb d c)) [
        | inl here ↦
            let is = eqb-true d c here in
            (λ i. record { name = name_or_zero (seat seats d); pending = (pending_set pending c None request_place d ∙ ap (λ (b : Bool). cond b None (pending_at pending d)) here) i; locks = (ap (locks_at new) is ∙ own ∙ ap (λ (n : ℕ). granted_own x op (locks_at store n)) (sym is)) i })
            ∙ sym (ap (λ (b : Bool). cond b (record (row_at seats pending store d) { pending = None; locks = granted_own x op (locks_at store d) }) (record (row_at seats pending store d) { locks = map (suspended x.0 ops) (locks_at store d) }))
            (ap (λ (n : ℕ). eqb (row_at seats pending store n).name t.0) is ∙ own_name seats pending order store seated sound c t sits))
        | inr apart ↦
            (λ i. record { name = name_or_zero (seat seats d); pending = (pending_set pending c None request_place d ∙ ap (λ (b : Bool). cond b None (pending_at pending d)) apart) i; locks = others d (eqb-false d c apart) i })
            ∙ sym (ap (λ (b : Bool). cond b (record (row_at seats pending store d) { pending = None; locks = granted_own x op (locks_at store d) }) (record (row_at seats pending store d) { locks = map (suspended x.0 ops) (locks_at store d) }))
            (other_name seats pending order store seated sound c d t sits there (eqb-false d c apart)))
      ])
      ∙ ap (λ (o : Option Lock). map (granted_row t.0 x op (ops_with op o)) (rows_of seats pending order store)) (sym (lock_of_seat seats pending order store seated sound owners c t x.0 sits)) where
        ops : OpSet
        ops = ops_with op (find (is_on x.0) (locks_at store c))

  -- t, who is enrolled, has other locks
  pub seated_later : home_of order c ≡ Some 0 → (later : List PendingRequest) (new : Stored) → length pending ≤ length later → length store.by_owner.chains ≤ length new.by_owner.chains
      → ((k d : ℕ) → home_of new.by_owner k ≡ Some d → (home_of store.by_owner k ≡ Some d) ⊎ (d ≡ c)) → AreSeated seats later order new
  seated_later home later new places chains holders = record {
    enrolled = seated.enrolled;
    single = seated.single;
    places = λ d u here.
        let was = seated.places d u here in
        record { request = omega (arith, was.request, places); locks = omega (arith, was.locks, chains); chain = was.chain; key = was.key };
    holders = λ d k held. elim (holders k d held) [
      | inl before ↦ seated.holders d k before
      | inr same ↦ ap (home_of order) same ∙ home
    ];
  }

  -- t is released
  pub releases : (left : Chained) (new : Stored) → chain_of left 0 ≡ without c (chain_of order 0) → ((d : ℕ) → (d ≡ c → ⊥) → locks_at new d ≡ locks_at store d)
      → rows_of seats pending left new ≡ release_in (λ n. eqb n t.0) (rows_of seats pending order store)
  unfolding rows_of release_in row_at
  releases left new chain others =
      ap (map (row_at seats pending new)) chain
      ∙ filtered (row_at seats pending new) (row_at seats pending store) (λ (who : Enrolled). not (eqb who.name t.0)) c (chain_of order 0) (ap not (own_name seats pending order store seated sound c t sits))
      (λ d there apart. (
        ap not (other_name seats pending order store seated sound c d t sits there apart),
        ap (λ (l : List Lock). record { name = name_or_zero (seat seats d); pending = pending_at pending d; locks = l }) (others d apart),
      ))

  pub seated_less : (left : Chained) (new : Stored) → ((d : ℕ) → home_of left d ≡ cond (eqb d c) None (home_of order d)) → length left.chains ≡ length order.chains → length left.homes ≡ length order.homes
      → length new.by_owner.chains ≡ length store.by_owner.chains → ((k d : ℕ) → home_of new.by_owner k ≡ Some d → (home_of store.by_owner k ≡ Some d) × (d ≡ c → ⊥)) → AreSeated seats pending left new
  seated_less left new homes chains keys owned holders = record {
    enrolled = λ d e home. elim (cases_Bool (eqb d c)) [
      | inl here ↦ absurd (some_is_not_none e (sym home ∙ homes d ∙ ap (λ (b : Bool). cond b None (home_of order d)) here))
      | inr apart ↦ seated.enrolled d e (sym (homes d ∙ ap (λ (b : Bool). cond b None (home_of order d)) apart) ∙ home)
    ];
    single = seated.single;
    places = λ d u here.
        let was = seated.places d u here in
        record { request = was.request; locks = omega (arith, was.locks, owned); chain = omega (arith, was.chain, chains); key = omega (arith, was.key, keys) };
    holders = λ d k held.
        let was = holders k d held in
        homes d ∙ ap (λ (b : Bool). cond b None (home_of order d)) (ne_eqb d c was.1) ∙ seated.holders d k was.0;
  }

-- nobody of this name is released
pub releases_nobody : (seats : Seated) (pending : List PendingRequest) (order : Chained) (store : Stored) → AreSeated seats pending order store → IsConsistent order → (t : Txn) → ((c : ℕ) → seat seats c ≡ Some t → ⊥)
    → rows_of seats pending order store ≡ release_in (λ n. eqb n t.0) (rows_of seats pending order store)
unfolding rows_of release_in
releases_nobody seats pending order store seated sound t absent =
    all_pass (row_at seats pending store) (λ (who : Enrolled). not (eqb who.name t.0)) (chain_of order 0) (λ d there. ap not (absent_name seats pending order store seated sound t (λ c _. absent c) d there))

-- ---- one more is enrolled
-- what is kept already is kept
pub grown_self : (store : Stored) → IsGrown store store
grown_self store = record { locks = λ k. refl; chains = λ c. refl; homes = λ k. refl; seats = omega arith; objects = refl }

-- room changes nothing
module _ (seats : Seated) (pending : List PendingRequest) (order : Chained) (store : Stored) (longer : List PendingRequest) (grown : Chained) (roomy : Stored)
    (made : IsRoomMade pending order longer grown) (room : IsGrown store roomy) where
  pub seated_grown : AreSeated seats pending order store → AreSeated seats longer grown roomy
  seated_grown seated = record {
    enrolled = λ c d home. seated.enrolled c d (sym (made.homes c) ∙ home);
    single = seated.single;
    places = λ c t here.
        let was = seated.places c t here in
        record { request = omega (arith, was.request, made.places); locks = omega (arith, was.locks, room.seats); chain = omega (arith, was.chain, made.many); key = omega (arith, was.key, made.keys) };
    holders = λ c k held. made.homes c ∙ seated.holders c k (sym (room.homes k) ∙ held);
  }

  pub rows_grown : rows_of seats longer grown roomy ≡ rows_of seats pending order store
  unfolding rows_of row_at
  rows_grown =
      ap (map (row_at seats longer roomy)) (made.chains 0)
      ∙ map_same (row_at seats longer roomy) (row_at seats pending store) (chain_of order 0)
      (λ c there. λ i. record { name = name_or_zero (seat seats c); pending = made.requests c i; locks = grown_same store roomy room c i })

module _ (seats : Seated) (pending : List PendingRequest) (order : Chained) (store : Stored) (seated : AreSeated seats pending order store) (sound : IsConsistent order) (c : ℕ) (t : Txn) (sits : seat seats c ≡ Some t)
    (out : home_of order c ≡ None) (longer : Chained) (pushed : IsPushed 0 c order longer) where
  pub seated_more : AreSeated seats (set pending c None) longer store
  seated_more = record {
    enrolled = λ d e home. elim (cases_Bool (eqb d c)) [
      | inl here ↦
          let is = eqb-true d c here in
          (some_same (sym home ∙ ap (home_of longer) is ∙ pushed.home), ap (λ (n : ℕ). is_some (seat seats n)) is ∙ ap is_some sits)
      | inr apart ↦ seated.enrolled d e (sym (pushed.homes d (eqb-false d c apart)) ∙ home)
    ];
    single = seated.single;
    places = λ d u here.
        let was = seated.places d u here in
        record { request = omega (arith, was.request, length-set pending c None); locks = was.locks; chain = omega (arith, was.chain, pushed.same_chains); key = omega (arith, was.key, pushed.same_keys) };
    holders = λ d k held.
        let was = seated.holders d k held in
        pushed.homes d (λ same. some_is_not_none 0 (sym was ∙ ap (home_of order) same ∙ out)) ∙ was;
  } where
    some_same : {d e : ℕ} → Some d ≡ Some e → d ≡ e
    some_same is = cc

  pub enrols : IsConsistent store.by_owner → rows_of seats (set pending c None) longer store ≡ enrol_in t.0 (rows_of seats pending order store)
  unfolding rows_of enrol_in row_at name_or_zero
  enrols owners =
      ap (map (row_at seats (set pending c None) store)) pushed.chain
      ∙ map-append (row_at seats (set pending c None) store) (chain_of order 0) (c ∷ [])
      ∙ (λ i. map_same (row_at seats (set pending c None) store) (row_at seats pending store) (chain_of order 0) (λ d there.
      ap (λ (p : PendingRequest). record { name = name_or_zero (seat seats d); pending = p; locks = locks_at store d }) (pending_set pending c None place d ∙ ap (λ (b : Bool). cond b None (pending_at pending d)) (ne_eqb d c (apart_from d there)))) i
      ++ record { name = name_or_zero (sits i); pending = (pending_set pending c None place c ∙ ap (λ (b : Bool). cond b None (pending_at pending c)) (eq-eqb c c refl)) i; locks = nothing_held seats pending order store seated sound owners c out i } ∷ []) where
        place : c < length pending
        place = (seated.places c t sits).request

        apart_from : (d : ℕ) → lists (chain_of order 0) d ≡ true → d ≡ c → ⊥
        apart_from d there is = some_is_not_none 0 (sym (sound.at_home 0 d there) ∙ ap (home_of order) is ∙ out)

-- ---- who is free
module _ (seats : Seated) (pending : List PendingRequest) (order : Chained) (store : Stored) (seated : AreSeated seats pending order store) (sound : IsConsistent order) (allows : ℕ → Bool) (t x : ℕ) (op : Op) where
  nothing_blocks : (u : Txn) → blocks allows t x op u.0 [] ≡ true → ⊥
  unfolding blocks
  nothing_blocks u is = go (not (eqb u.0 t)) (not (allows u.0)) is where
    go : (a b : Bool) → (a && b && false) ≡ true → ⊥
    go true true e = true≢false (sym e)
    go true false e = true≢false (sym e)
    go false b e = true≢false (sym e)

  pub is_blocked_by : IsConsistent store.by_owner → (c : ℕ) (u : Txn) → seat seats c ≡ Some u → blocks allows t x op u.0 (locks_at store c) ≡ true → is_free_in (rows_of seats pending order store) allows t x op ≡ false
  unfolding is_free_in rows_of row_at
  is_blocked_by owners c u sits h = elim (enrolled_or_not seats pending order store seated sound c) [
    | inl home ↦
        ap not (any_from (λ (who : Enrolled). blocks allows t x op who.name who.locks) (row_at seats pending store) (chain_of order 0) c (sound.listed 0 c home)
        (ap (λ (n : ℕ). blocks allows t x op n (locks_at store c)) (row_name seats pending order store seated sound c u sits) ∙ h))
    | inr out ↦ absurd (nothing_blocks u (ap (blocks allows t x op u.0) (sym (nothing_held seats pending order store seated sound owners c out)) ∙ h))
  ]

  pub is_free_by : ((c : ℕ) (u : Txn) → seat seats c ≡ Some u → blocks allows t x op u.0 (locks_at store c) ≡ false) → is_free_in (rows_of seats pending order store) allows t x op ≡ true
  unfolding is_free_in rows_of row_at
  is_free_by none =
      ap not (any_none (λ (who : Enrolled). blocks allows t x op who.name who.locks) (row_at seats pending store) (chain_of order 0) (λ c there.
      let at = sits_at seats pending order store seated sound c there in
      ap (λ (n : ℕ). blocks allows t x op n (locks_at store c)) (row_name seats pending order store seated sound c at.0 at.1) ∙ none c at.0 at.1))

  -- ---- who blocks
  pub is_blocker_by : IsConsistent store.by_owner → (c : ℕ) (u : Txn) → seat seats c ≡ Some u → blocks allows t x op u.0 (locks_at store c) ≡ true → is_blocker_in (rows_of seats pending order store) allows t x op u.0 ≡ true
  unfolding is_blocker_in rows_of row_at
  is_blocker_by owners c u sits h = elim (enrolled_or_not seats pending order store seated sound c) [
    | inl home ↦
        let name = row_name seats pending order store seated sound c u sits in
        any_from (λ (who : Enrolled). eqb who.name u.0 && blocks allows t x op who.name who.locks) (row_at seats pending store) (chain_of order 0) c (sound.listed 0 c home)
        (and_from _ _ (ap (λ (n : ℕ). eqb n u.0) name ∙ eq-eqb u.0 u.0 refl) (ap (λ (n : ℕ). blocks allows t x op n (locks_at store c)) name ∙ h))
    | inr out ↦ absurd (nothing_blocks u (ap (blocks allows t x op u.0) (sym (nothing_held seats pending order store seated sound owners c out)) ∙ h))
  ]

  pub blocker_is_seated : (n : ℕ) → is_blocker_in (rows_of seats pending order store) allows t x op n ≡ true → (c : ℕ) × (u : Txn) × (seat seats c ≡ Some u) × (blocks allows t x op u.0 (locks_at store c) ≡ true) × (u.0 ≡ n)
  unfolding is_blocker_in rows_of row_at
  blocker_is_seated n h =
      let found = any_found (λ (who : Enrolled). eqb who.name n && blocks allows t x op who.name who.locks) (row_at seats pending store) (chain_of order 0) h in
      let at = sits_at seats pending order store seated sound found.0 found.1 in
      let both = and_parts _ _ found.2 in
      let name = row_name seats pending order store seated sound found.0 at.0 at.1 in
      (found.0, at.0, at.1, ap (λ (m : ℕ). blocks allows t x op m (locks_at store found.0)) (sym name) ∙ both.1, sym name ∙ eqb-true _ n both.0)

-- ---- who waits
pub waiting_seat : Seated → List PendingRequest → ℕ → ℕ → List (Txn × Op)
waiting_seat seats pending x c = waiting_at x (name_or_zero (seat seats c)) (pending_at pending c)

pub waiters_are : (seats : Seated) (pending : List PendingRequest) (order : Chained) (store : Stored) (x : ℕ) → waiters_in (rows_of seats pending order store) x ≡ flat_map (waiting_seat seats pending x) (chain_of order 0)
unfolding waiters_in rows_of row_at waiting_seat
waiters_are seats pending order store x = go (chain_of order 0) where
  go : (keys : List ℕ) → flat_map (λ (who : Enrolled). waiting_at x who.name who.pending) (map (row_at seats pending store) keys) ≡ flat_map (waiting_seat seats pending x) keys
  go [] = refl
  go (c ∷ keys) = ap (λ (l : List (Txn × Op)). waiting_at x (name_or_zero (seat seats c)) (pending_at pending c) ++ l) (go keys)

pub waits_there : (seats : Seated) (pending : List PendingRequest) (x c : ℕ) (t : Txn) → seat seats c ≡ Some t → (l : List (Txn × Op)) → l ≡ waiting_at x t.0 (pending_at pending c) → waiting_seat seats pending x c ≡ l
unfolding waiting_seat name_or_zero
waits_there seats pending x c t sits l is = ap (λ (o : Option Txn). waiting_at x (name_or_zero o) (pending_at pending c)) sits ∙ sym is

-- ---- what calls answer
pub not_blocked : (blocked free : Bool) → (blocked ≡ true → free ≡ false) → (blocked ≡ false → free ≡ true) → not blocked ≡ free
not_blocked true free when otherwise = sym (when refl)
not_blocked false free when otherwise = sym (otherwise refl)

pub rows_kept : (seats : Seated) (pending : List PendingRequest) (order : Chained) (store new : Stored) → ((d : ℕ) → locks_at new d ≡ locks_at store d) → rows_of seats pending order new ≡ rows_of seats pending order store
unfolding rows_of row_at
rows_kept seats pending order store new same =
    map_same (row_at seats pending new) (row_at seats pending store) (chain_of order 0) (λ d there. ap (λ (l : List Lock). record { name = name_or_zero (seat seats d); pending = pending_at pending d; locks = l }) (same d))

pub find_absent : (test : Lock → Bool) (locks : List Lock) → list_any test locks ≡ false → find test locks ≡ None
find_absent test [] none = refl
find_absent test (l ∷ locks) none =
    let parts = or_parts (test l) (list_any test locks) none in
    ap (λ (b : Bool). cond b (Some l) (find test locks)) parts.0 ∙ find_absent test locks parts.1

pub nobody_seated : (seats : Seated) (pending : List PendingRequest) (order : Chained) (store : Stored) → AreSeated seats pending order store → IsConsistent order → (t : Txn) → ((c : ℕ) → seat seats c ≡ Some t → ⊥)
    → is_some (enrolled_in (rows_of seats pending order store) t.0) ≡ true → ⊥
nobody_seated seats pending order store seated sound t absent enrolled = true≢false (sym enrolled ∙ ap is_some (not_enrolled seats pending order store seated sound t (λ c _. absent c)))

-- nobody is enrolled, at first
pub seated_nothing : (seats : Seated) (pending : List PendingRequest) (order : Chained) (store : Stored) → ((c : ℕ) → seat seats c ≡ None) → order.homes ≡ [] → store.by_owner.homes ≡ [] → AreSeated seats pending order store
seated_nothing seats pending order store nobody homes owners = record {
  enrolled = λ c d home. absurd (some_is_not_none d (sym home ∙ no_home_of order homes c));
  single = λ c d t here there. absurd (some_is_not_none t (sym here ∙ nobody c));
  places = λ c t here. absurd (some_is_not_none t (sym here ∙ nobody c));
  holders = λ c k home. absurd (some_is_not_none c (sym home ∙ no_home_of store.by_owner owners k));
}

pub no_rows : (seats : Seated) (pending : List PendingRequest) (order : Chained) (store : Stored) → order.chains ≡ [] → rows_of seats pending order store ≡ []
unfolding rows_of
no_rows seats pending order store none = ap (map (row_at seats pending store)) (no_chain_of order none 0)

-- ---- waiters that come later
pub one_waiter : (waiter : Txn × Op) (rest : List (Txn × Op)) (l : List (Txn × Op)) (before : ℕ) → l ≡ waiter ∷ [] → before ≡ 0 → slice_get (l ++ rest) before ≡ Some waiter
one_waiter waiter rest l before is first = ap (λ (w : List (Txn × Op)). slice_get (w ++ rest) before) is ∙ sym (get_first waiter rest before first)

pub one_waiter_less : (waiter : Txn × Op) (rest : List (Txn × Op)) (l : List (Txn × Op)) (before : ℕ) → l ≡ waiter ∷ [] → (before ≡ 0 → ⊥) → slice_get rest (before - 1) ≡ slice_get (l ++ rest) before
one_waiter_less waiter rest l before is later = get_later waiter rest before later ∙ sym (ap (λ (w : List (Txn × Op)). slice_get (w ++ rest) before) is)

pub no_waiter : (rest l : List (Txn × Op)) (before : ℕ) → l ≡ [] → slice_get rest before ≡ slice_get (l ++ rest) before
no_waiter rest l before is = sym (ap (λ (w : List (Txn × Op)). slice_get (w ++ rest) before) is)

-- ---- enrolment
pub enrolled_now : (t : ℕ) (table : LockTable) → is_some (enrolled_in (enrol_in t table) t) ≡ true
unfolding enrolled_in enrol_in
enrolled_now t table = go table where
  new : Enrolled
  new = record { name = t; pending = None; locks = [] }

  go : (rows : List Enrolled) → is_some (find (λ (who : Enrolled). eqb who.name t) (rows ++ new ∷ [])) ≡ true
  go [] = ap (λ (b : Bool). is_some (cond b (Some new) None)) (eq-eqb t t refl)
  go (who ∷ rows) = by_name (eqb who.name t) (go rows) where
    by_name : (b : Bool) → is_some (find (λ (who : Enrolled). eqb who.name t) (rows ++ new ∷ [])) ≡ true → is_some (cond b (Some who) (find (λ (who : Enrolled). eqb who.name t) (rows ++ new ∷ []))) ≡ true
    by_name true h = refl
    by_name false h = h

-- ---- room
-- one more place has no request
pub pending_more : (pending : List PendingRequest) (d : ℕ) → pending_at (pending ++ None ∷ []) d ≡ pending_at pending d
unfolding pending_at
pending_more pending d = read_more pending None d
