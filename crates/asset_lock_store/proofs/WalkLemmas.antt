-- Walks along the locks of a seat, and what is asked of each lock.
use Rattle.std.proofs.Common.{zero, suc, ◌-◌, map, [], arith, ◌≡◌, ℕ, ◌<◌, ◌⊎◌, length, subst, Bool, true, false, eqb, cond, not, ◌&&◌, List, ◌∷◌, Option, Some, None, refl, sym, ap, ◌∙◌, inl, inr}
use Rattle.std.specs.Prelude.{slice_get}
use Rattle.std.proofs.lemmas.Bool.{eqb-true, eq-eqb, ne_eqb, true≢false, not-false}
use Rattle.asset_chains.specs.Chained.{Chained, IsConsistent, chain_of, home_of, first_of, behind, lists}
use Rattle.asset_chains.proofs.Laws.{chain_at_first}
use Rattle.asset_chains.proofs.Walks.{from_key, from_first, from_next, next_home, walk_more, walk_ends, walk_less}
use Rattle.asset_lists.specs.declared.part.Section.{Section}
use Rattle.asset_lists.specs.declared.part.Section.TheVariants.{Front, Middle, Back}
use Rattle.asset_lists.specs.Parted.{is_up_to}
use Rattle.asset_lock_store.specs.declared.lock.Lock.{Lock}
use Rattle.asset_names.specs.declared.names.Ob.{Ob}
use Rattle.asset_names.specs.declared.names.Txn.{Txn}
use Rattle.asset_names.specs.declared.operations.Op.{Op}
use Rattle.asset_names.specs.declared.operations.Op.TheVariants as Op'
use Rattle.asset_names.specs.OpSets.{OpSet, only_op}
use Rattle.asset_seats.specs.Seated.{Seated}
use Rattle.asset_lock_store.specs.LockRules.{one_conflicts, paused}
use Rattle.asset_lock_store.specs.Stored.{Stored, lock_at, locks_at, is_others, name_of, name_blocks, key_blocks, meets}
use Rattle.asset_lock_store.specs.Looked.{looks_at}

-- the lock, suspended if a walk has passed it, it is another's, and it conflicts
abbrev pub passed_lock : OpSet → Bool → Lock → Lock
passed_lock ops b lock = cond b (paused ops lock) lock

-- ---- a walk along a chain of a table, which is read as another that is equal
module _ (read shown : Chained) (same : read ≡ shown) (sound : IsConsistent read) (c : ℕ) where
  home_read : (k d : ℕ) → home_of shown k ≡ Some d → home_of read k ≡ Some d
  home_read k d home = ap (λ (t : Chained). home_of t k) same ∙ home

  -- the walk begins in the chain, and has passed nothing
  pub begins : (next : Option ℕ) → next ≡ first_of (chain_of read c) → (k : ℕ) → next ≡ Some k → home_of shown k ≡ Some c
  begins next is k at = sym (ap (λ (t : Chained). home_of t k) same) ∙ (chain_at_first k c read sound (sym is ∙ at)).0

  pub all_left : (next : Option ℕ) → next ≡ first_of (chain_of read c) → from_key next (chain_of shown c) ≡ chain_of shown c
  all_left next is = subst (λ (t : Chained). from_key next (chain_of t c) ≡ chain_of t c) same (ap (λ (o : Option ℕ). from_key o (chain_of read c)) is ∙ from_first (chain_of read c))

  pub none_yet : (P : ℕ → Type 0) (next : Option ℕ) → next ≡ first_of (chain_of read c) → (k : ℕ) → lists (chain_of shown c) k ≡ true → (lists (from_key next (chain_of shown c)) k ≡ true) ⊎ P k
  none_yet P next is k listed = inl (ap (λ (l : List ℕ). lists l k) (all_left next is) ∙ listed)

  module _ (key : ℕ) (next at : Option ℕ) (home : home_of shown key ≡ Some c) (goes : (d : ℕ) → home_of read key ≡ Some d → next ≡ first_of (behind key (chain_of read d))) (here : at ≡ Some key) where
    next_is : next ≡ first_of (behind key (chain_of read c))
    next_is = goes c (home_read key c home)

    -- and goes on in it
    pub stays : (k : ℕ) → next ≡ Some k → home_of shown k ≡ Some c
    stays k is = sym (ap (λ (t : Chained). home_of t k) same) ∙ next_home read key k c sound (home_read key c home) (sym next_is ∙ is)

    listed_here : lists (chain_of read c) key ≡ true
    listed_here = sound.listed c key (home_read key c home)

    -- past one more key
    pub one_more : (P : ℕ → Type 0) → ((k : ℕ) → lists (chain_of shown c) k ≡ true → (lists (from_key at (chain_of shown c)) k ≡ true) ⊎ P k) → P key
        → (k : ℕ) → lists (chain_of shown c) k ≡ true → (lists (from_key next (chain_of shown c)) k ≡ true) ⊎ P k
    one_more P before holds =
        subst (λ (t : Chained). (k : ℕ) → lists (chain_of t c) k ≡ true → (lists (from_key next (chain_of t c)) k ≡ true) ⊎ P k) same
        (subst (λ (o : Option ℕ). (k : ℕ) → lists (chain_of read c) k ≡ true → (lists (from_key o (chain_of read c)) k ≡ true) ⊎ P k) (sym next_is)
        (walk_more P key (chain_of read c) (sound.once c) listed_here (subst (λ (o : Option ℕ). (k : ℕ) → lists (chain_of read c) k ≡ true → (lists (from_key o (chain_of read c)) k ≡ true) ⊎ P k) here
        (subst (λ (t : Chained). (k : ℕ) → lists (chain_of t c) k ≡ true → (lists (from_key at (chain_of t c)) k ≡ true) ⊎ P k) (sym same) before)) holds))

    -- with fewer keys left
    pub fewer : length (from_key next (chain_of shown c)) < length (from_key at (chain_of shown c))
    fewer = subst (λ (t : Chained). length (from_key next (chain_of t c)) < length (from_key at (chain_of t c))) same
        (subst (λ (o : Option ℕ). length (from_key o (chain_of read c)) < length (from_key at (chain_of read c))) (sym next_is)
        (subst (λ (o : Option ℕ). length (from_key (first_of (behind key (chain_of read c))) (chain_of read c)) < length (from_key o (chain_of read c))) (sym here) (walk_less key (chain_of read c) (sound.once c) listed_here)))

    -- the keys that are left are this one and those that are left at the next
    pub left_split : from_key at (chain_of shown c) ≡ key ∷ from_key next (chain_of shown c)
    left_split = subst (λ (t : Chained). from_key at (chain_of t c) ≡ key ∷ from_key next (chain_of t c)) same
        (ap (λ (o : Option ℕ). from_key o (chain_of read c)) here ∙ ap (λ (l : List ℕ). key ∷ l) (sym (ap (λ (o : Option ℕ). from_key o (chain_of read c)) next_is ∙ from_next key (chain_of read c) (sound.once c) listed_here)))

  -- at the end it has passed all
  pub all_passed_by : (P : ℕ → Type 0) (at : Option ℕ) → at ≡ None → ((k : ℕ) → lists (chain_of shown c) k ≡ true → (lists (from_key at (chain_of shown c)) k ≡ true) ⊎ P k) → (k : ℕ) → home_of shown k ≡ Some c → P k
  all_passed_by P at ends before k home =
      walk_ends P (chain_of shown c) (subst (λ (o : Option ℕ). (k : ℕ) → lists (chain_of shown c) k ≡ true → (lists (from_key o (chain_of shown c)) k ≡ true) ⊎ P k) ends before) k
      (ap (λ (t : Chained). lists (chain_of t c) k) (sym same) ∙ sound.listed c k (home_read k c home))

-- ---- values along the keys
-- what comes later in a list
pub get_later : {X : Type 0} (x : X) (xs : List X) (n : ℕ) → (n ≡ 0 → ⊥) → slice_get xs (n - 1) ≡ slice_get (x ∷ xs) n
get_later x xs zero some = absurd (some refl)
get_later x xs (suc n) some = let less : suc n - 1 ≡ n = omega arith in ap (slice_get xs) less

pub get_first : {X : Type 0} (x : X) (xs : List X) (n : ℕ) → n ≡ 0 → Some x ≡ slice_get (x ∷ xs) n
get_first x xs zero first = refl
get_first x xs (suc n) first = absurd (omega (arith, first))

-- the objects of the locks of a seat, by its keys
pub objects_at : (store : Stored) (c : ℕ) → map (λ (lock : Lock). lock.object) (locks_at store c) ≡ map (λ (k : ℕ). (lock_at store.locks k).object) (chain_of store.by_owner c)
unfolding locks_at
objects_at store c = go (chain_of store.by_owner c) where
  go : (keys : List ℕ) → map (λ (lock : Lock). lock.object) (map (lock_at store.locks) keys) ≡ map (λ (k : ℕ). (lock_at store.locks k).object) keys
  go [] = refl
  go (k ∷ keys) = ap (λ (l : List Ob). (lock_at store.locks k).object ∷ l) (go keys)

pub others_not : (c : ℕ) (o : Option ℕ) → is_others c o ≡ false → o ≡ Some c
unfolding is_others
others_not c None h = absurd (true≢false h)
others_not c (Some d) h = ap Some (eqb-true d c (not-false _ h))

pub others_from : (c d : ℕ) → (d ≡ c → ⊥) → is_others c (Some d) ≡ true
unfolding is_others
others_from c d differ = ap not (ne_eqb d c differ)

pub others_own : (c : ℕ) → is_others c (Some c) ≡ false
unfolding is_others
others_own c = ap not (eq-eqb c c refl)

-- whether the lock at a key blocks, by who has it
pub blocked_by : (store : Stored) (seats : Seated) (allows : ℕ → Bool) (t : ℕ) (op : Op) (k : ℕ) (u : Txn) → name_of seats (home_of store.by_owner k) ≡ Some u
    → key_blocks store seats allows t op k ≡ (not (eqb u.0 t) && one_conflicts (lock_at store.locks k).ops op && not (allows u.0))
unfolding key_blocks name_blocks
blocked_by store seats allows t op k u who = ap (λ (o : Option Txn). name_blocks allows t op (lock_at store.locks k) o) who

pub blocked_by_none : (store : Stored) (seats : Seated) (allows : ℕ → Bool) (t : ℕ) (op : Op) (k : ℕ) → name_of seats (home_of store.by_owner k) ≡ None → key_blocks store seats allows t op k ≡ false
unfolding key_blocks name_blocks
blocked_by_none store seats allows t op k nobody = ap (λ (o : Option Txn). name_blocks allows t op (lock_at store.locks k) o) nobody

pub first_false : (a b c : Bool) → a ≡ true → false ≡ (not a && b && c)
first_false a b c p = sym (ap (λ (d : Bool). not d && b && c) p)

pub two_true : (a b c : Bool) → a ≡ false → b ≡ true → c ≡ (not a && b && c)
two_true a b c p q = sym (λ i. not (p i) && q i && c)

pub second_false : (a b c : Bool) → a ≡ false → b ≡ false → false ≡ (not a && b && c)
second_false a b c p q = sym (λ i. not (p i) && q i && c)

-- ---- the parts that are looked at
pub looks_in_front : (op : Op) → looks_at op Front ≡ true
unfolding looks_at meets
looks_in_front op = refl

-- for a read the front part and the middle part
pub looks_for_read : (op : Op) → op ≡ Op'.Read → looks_at op Middle ≡ true
unfolding looks_at meets only_op
looks_for_read op is = ap (λ (o : Op). looks_at o Middle) is

pub covers_read : (op : Op) → op ≡ Op'.Read → (w : Section) → looks_at op w ≡ true → (w ≡ Front) ⊎ (w ≡ Middle)
unfolding looks_at meets only_op
covers_read op is w looks = go w (sym (ap (λ (o : Op). looks_at o w) is) ∙ looks) where
  go : (w : Section) → looks_at Op'.Read w ≡ true → (w ≡ Front) ⊎ (w ≡ Middle)
  go Front h = inl refl
  go Middle h = inr refl
  go Back h = absurd (true≢false (sym h))

-- all up to the middle part
pub reach_read : (op : Op) → op ≡ Op'.Read → (w : Section) → is_up_to Middle w ≡ looks_at op w
unfolding looks_at meets only_op is_up_to
reach_read op is w = go w ∙ sym (ap (λ (o : Op). looks_at o w) is) where
  go : (w : Section) → is_up_to Middle w ≡ looks_at Op'.Read w
  go Front = refl
  go Middle = refl
  go Back = refl

pub misses_read : (op : Op) → op ≡ Op'.Read → (w : Section) → looks_at op w ≡ false → w ≡ Back
unfolding looks_at meets only_op
misses_read op is w misses = go w (sym (ap (λ (o : Op). looks_at o w) is) ∙ misses) where
  go : (w : Section) → looks_at Op'.Read w ≡ false → w ≡ Back
  go Front h = absurd (true≢false h)
  go Middle h = absurd (true≢false h)
  go Back h = refl

-- for an add the front part and the back part
pub looks_for_add : (op : Op) → op ≡ Op'.Add → looks_at op Back ≡ true
unfolding looks_at meets only_op
looks_for_add op is = ap (λ (o : Op). looks_at o Back) is

pub covers_add : (op : Op) → op ≡ Op'.Add → (w : Section) → looks_at op w ≡ true → (w ≡ Front) ⊎ (w ≡ Back)
unfolding looks_at meets only_op
covers_add op is w looks = go w (sym (ap (λ (o : Op). looks_at o w) is) ∙ looks) where
  go : (w : Section) → looks_at Op'.Add w ≡ true → (w ≡ Front) ⊎ (w ≡ Back)
  go Front h = inl refl
  go Middle h = absurd (true≢false (sym h))
  go Back h = inr refl

pub misses_add : (op : Op) → op ≡ Op'.Add → (w : Section) → looks_at op w ≡ false → w ≡ Middle
unfolding looks_at meets only_op
misses_add op is w misses = go w (sym (ap (λ (o : Op). looks_at o w) is) ∙ misses) where
  go : (w : Section) → looks_at Op'.Add w ≡ false → w ≡ Middle
  go Front h = absurd (true≢false h)
  go Middle h = refl
  go Back h = absurd (true≢false h)

-- for a write all
pub looks_for_write : (op : Op) → op ≡ Op'.Write → (w : Section) → looks_at op w ≡ true
unfolding looks_at meets only_op
looks_for_write op is w = ap (λ (o : Op). looks_at o w) is ∙ go w where
  go : (w : Section) → looks_at Op'.Write w ≡ true
  go Front = refl
  go Middle = refl
  go Back = refl

pub reach_write : (op : Op) → op ≡ Op'.Write → (w : Section) → is_up_to Back w ≡ looks_at op w
unfolding is_up_to
reach_write op is w = sym (looks_for_write op is w)

pub covers_all : (w : Section) → ((w ≡ Front) ⊎ (w ≡ Middle)) ⊎ (w ≡ Back)
covers_all Front = inl (inl refl)
covers_all Middle = inl (inr refl)
covers_all Back = inr refl
