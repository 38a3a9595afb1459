-- The entries of those who are named, block by block, are the serial entries.
use Rattle.std.proofs.Common.{◌≡◌, ℕ, ◌+◌, ◌<◌, ◌≤◌, Bool, true, false, cond, eqb, ltb, List, [], ◌∷◌, ◌++◌, length, get_or, take, map, filter, reverse, refl, sym, ◌∙◌, ap, subst, inl, inr, Some, None, arith, zero, suc}
use Rattle.std.specs.Prelude.{flat_map, position, slice_get}
use Rattle.std.specs.List.{range_with_len, position_or_len}
use Rattle.std.proofs.lemmas.Bool.{eqb-true, eq-eqb, ne_eqb, ltb-false, false≢true}
use Rattle.std.proofs.lemmas.List.{append-nil, length-append, length-map, length-reverse, reverse-append, reverse-reverse, take_all, take_more, get_or-map}
use Rattle.std.proofs.lemmas.List.Concat.{flat_map-append}
use Rattle.std.proofs.lemmas.List.Folds.{flat_map-map}
use Rattle.std.proofs.lemmas.List.Elements.{filter-append}
use Rattle.std.proofs.lemmas.List.FromFn.{fill_by_all}
use Rattle.std.proofs.lemmas.List.Sums.{position_or_len_is, passes_at_first, fails_before_first}
use Rattle.std.proofs.lemmas.Option.{slice_get_cases}
use Rattle.asset_names.specs.Arrows.{lists}
use Rattle.asset_names.specs.Orderly.{Distinct}
use Rattle.asset_names.specs.Steps.{Opening, Entry, applied}
use Rattle.asset_names.specs.Groups.{actor}
use Rattle.asset_names.specs.Answers.{IsLegal}
use Rattle.asset_names.proofs.Common.{both_follow}
use Rattle.asset_laws.specs.Serial.{committed_names, entries_of, serial, CommittedShareNothing}
use Rattle.asset_laws.proofs.SerialLegal.{named_once}
use Rattle.asset_laws.proofs.SerialWorld.{flat_same}
use Rattle.asset_laws.proofs.SerialLemmas.{serial_legal}
use Rattle.asset_buckets.specs.Bucketed.{indices_below, indices_of, buckets_of}
use Rattle.asset_buckets.proofs.BucketLemmas.{next_below}
use Rattle.asset_entries.specs.Recorded.{Recorded, opened}
use Rattle.asset_serial.specs.Answered.{answered_names, number_of, numbers_of, blocks_of}
use Rattle.asset_serial.specs.Following.{alone, entry_listed_at, entries_at, entries_in, followed_by, CanFollow}
use Rattle.asset_serial.proofs.AnsweredLemmas.{Once, answered_are, answered_once}

-- ---- the index of a name
pub unnamed_last : (names : List ℕ) (n : ℕ) → None ≡ position (eqb n) names → length names ≡ position_or_len (eqb n) names
unnamed_last names n none = go (ltb (position_or_len (eqb n) names) (length names)) refl (sym none) where
  go : (b : Bool) → ltb (position_or_len (eqb n) names) (length names) ≡ b → cond b (Some (position_or_len (eqb n) names)) None ≡ None → length names ≡ position_or_len (eqb n) names
  go true f h = absurd cc
  go false f h =
      let past : length names ≤ position_or_len (eqb n) names = ltb-false _ _ f in
      sym (position_or_len_is (eqb n) names (length names) 0 (omega arith) (λ k below. fails_before_first (eqb n) names k 0 (omega arith)) (λ below. absurd (omega arith)))

-- where each name stands once, an index is that of a name if the name stands there
index_of_name : (names : List ℕ) → Once names → (n k : ℕ) → k < length names → eqb (position_or_len (eqb n) names) k ≡ eqb n (get_or names k 0)
index_of_name names once n k below =
    both_follow (eqb (position_or_len (eqb n) names) k) (eqb n (get_or names k 0))
    (λ h. let is = eqb-true (position_or_len (eqb n) names) k h in
    ap (λ j. eqb n (get_or names j 0)) (sym is) ∙ passes_at_first (eqb n) names 0 (omega arith))
    (λ h. let at = eqb-true n (get_or names k 0) h in
    eq-eqb (position_or_len (eqb n) names) k (position_or_len_is (eqb n) names k 0 (omega arith) (λ j before. ne_eqb n (get_or names j 0) (λ same. once j k before below (sym same ∙ at))) (λ inside. h)))

-- ---- the entries at the indices of a number
abbrev FoundBelow : List Entry → (Entry → ℕ) → ℕ → ℕ → Type 0
FoundBelow all number n i = flat_map (λ k. alone (slice_get all k)) (indices_below i n (map number all)) ≡ filter (λ e. eqb (number e) n) (take i all)

found_next : (all : List Entry) (number : Entry → ℕ) (n i : ℕ) → i < length all → FoundBelow all number n i → FoundBelow all number n (i + 1)
unfolding alone
found_next all number n i below found = elim (slice_get_cases all i).1 [
  | inl here ↦
      let add = λ (k : ℕ). alone (slice_get all k) in
      let test = λ (e : Entry). eqb (number e) n in
      let same : get_or (map number all) i 0 ≡ number here.0 = get_or-map number all i here.0 0 below ∙ ap number here.3 in
      let next : filter test (take (i + 1) all) ≡ filter test (take i all) ++ cond (test here.0) (here.0 ∷ []) [] =
      ap (filter test) (take_more all i here.0 below ∙ ap (λ e. take i all ++ e ∷ []) here.3) ∙ filter-append test (take i all) (here.0 ∷ []) in
      ap (flat_map add) (next_below (map number all) n i)
      ∙ flat_map-append add (indices_below i n (map number all)) (cond (eqb (get_or (map number all) i 0) n) (i ∷ []) [])
      ∙ ap (λ l. l ++ flat_map add (cond (eqb (get_or (map number all) i 0) n) (i ∷ []) [])) found
      ∙ ap (λ m. filter test (take i all) ++ flat_map add (cond (eqb m n) (i ∷ []) [])) same
      ∙ ap (λ l. filter test (take i all) ++ l) (one (test here.0) here.0 here.2)
      ∙ sym next
  | inr past ↦ absurd (omega (arith, past.0))
] where
  one : (b : Bool) (e : Entry) → slice_get all i ≡ Some e → flat_map (λ k. alone (slice_get all k)) (cond b (i ∷ []) []) ≡ cond b (e ∷ []) []
  one true e at = rw at refl
  one false e at = refl

found_below : (all : List Entry) (number : Entry → ℕ) (n i : ℕ) → i ≤ length all → FoundBelow all number n i
unfolding indices_below
found_below all number n zero within = refl
found_below all number n (suc i) within =
    let more : i + 1 ≡ suc i = omega arith in
    subst (FoundBelow all number n) more (found_next all number n i (omega arith) (found_below all number n i (omega arith)))

-- ---- lists
flat_range : {X : Type 0} (f g : ℕ → List X) (a n : ℕ) → ((k : ℕ) → k < a + n → f k ≡ g k) → flat_map f (range_with_len a n) ≡ flat_map g (range_with_len a n)
flat_range f g a zero same = refl
flat_range f g a (suc n) same = λ i. same a (omega arith) i ++ flat_range f g (a + 1) n (λ k below. same k (omega arith)) i

reverse_flat : (f : ℕ → List Entry) (names : List ℕ) → reverse (flat_map f names) ≡ flat_map (λ n. reverse (f n)) (reverse names)
reverse_flat f [] = refl
reverse_flat f (n ∷ names) =
    reverse-append (f n) (flat_map f names) ∙ ap (λ l. l ++ reverse (f n)) (reverse_flat f names)
    ∙ ap (λ l. flat_map (λ m. reverse (f m)) (reverse names) ++ l) (sym (append-nil (reverse (f n))))
    ∙ sym (flat_map-append (λ m. reverse (f m)) (reverse names) (n ∷ []))
    ∙ ap (flat_map (λ m. reverse (f m))) (sym (reverse-append (n ∷ []) names))

reverse_kept : {X : Type 0} (test : X → Bool) (xs : List X) → reverse (filter test xs) ≡ filter test (reverse xs)
reverse_kept test [] = refl
reverse_kept test (x ∷ xs) = go (test x) (reverse_kept test xs) ∙ sym (ap (filter test) (reverse-append (x ∷ []) xs) ∙ filter-append test (reverse xs) (x ∷ [])) where
  go : (b : Bool) → reverse (filter test xs) ≡ filter test (reverse xs) → reverse (cond b (x ∷ filter test xs) (filter test xs)) ≡ filter test (reverse xs) ++ cond b (x ∷ []) []
  go true rest = reverse-append (x ∷ []) (filter test xs) ∙ ap (λ l. l ++ x ∷ []) rest
  go false rest = rest ∙ sym (append-nil (filter test (reverse xs)))

-- ---- the blocks in order
block_is : (names : List ℕ) (entries : List Entry) → Once names → (k : ℕ) → k < length names → entries_at entries (indices_of k (numbers_of names entries)) ≡ entries_of (reverse entries) (get_or names k 0)
unfolding entries_at entry_listed_at indices_of numbers_of number_of entries_of
block_is names entries once k below =
    let all = reverse entries in
    let numbers = map (number_of names) all in
    let long : length numbers ≡ length all = length-map all (number_of names) in
    found_below all (number_of names) k (length numbers) (omega arith)
    ∙ ap (filter (λ e. eqb (number_of names e) k)) (take_all (length numbers) all (omega arith))
    ∙ ap (λ (test : Entry → Bool). filter test all) (λ i e. index_of_name names once (actor e.0).0 k below i)

pub blocks_are : (names : List ℕ) (entries : List Entry) → Once names → entries_in entries (blocks_of names entries) ≡ flat_map (entries_of (reverse entries)) names
unfolding entries_in blocks_of buckets_of
blocks_are names entries once =
    let all = reverse entries in
    let block = λ (k : ℕ). indices_of k (numbers_of names entries) in
    let name = λ (k : ℕ). get_or names k 0 in
    let indices = range_with_len 0 (length names) in
    let named : names ≡ map name indices = fill_by_all name names (length names) 0 refl (λ k below. refl) in
    flat_map-map (entries_at entries) block indices
    ∙ flat_range (λ k. entries_at entries (block k)) (λ k. entries_of all (name k)) 0 (length names) (λ k below. block_is names entries once k (omega arith))
    ∙ sym (flat_map-map (entries_of all) name indices)
    ∙ ap (flat_map (entries_of all)) (sym named)

pub serial_reversed : (entries : List Entry) → reverse (serial entries) ≡ flat_map (entries_of (reverse entries)) (reverse (committed_names (applied entries)))
unfolding serial entries_of
serial_reversed entries =
    reverse_flat (entries_of entries) (committed_names (applied entries))
    ∙ flat_same (λ n. reverse (entries_of entries n)) (entries_of (reverse entries)) (reverse (committed_names (applied entries))) (λ n h. reverse_kept (λ (entry : Entry). eqb (actor entry.0).0 n) entries)

-- ---- how many there are
none_of : (names : List ℕ) → flat_map (entries_of []) names ≡ []
unfolding entries_of
none_of [] = refl
none_of (n ∷ names) = none_of names

one_few : (entry : Entry) (older : List Entry) (names : List ℕ) → Distinct names → length (flat_map (entries_of (entry ∷ older)) names) ≤ length (flat_map (entries_of older) names) + 1
unfolding entries_of
one_few entry older [] once = omega arith
one_few entry older (n ∷ names) once = go (eqb (actor entry.0).0 n) refl (one_few entry older names once.1) where
  more : List Entry
  more = flat_map (entries_of (entry ∷ older)) names

  rest : List Entry
  rest = flat_map (entries_of older) names

  other : (actor entry.0).0 ≡ n → (m : ℕ) → lists names m ≡ true → entries_of (entry ∷ older) m ≡ entries_of older m
  other is m h = apart (eqb (actor entry.0).0 m) refl where
    apart : (b : Bool) → eqb (actor entry.0).0 m ≡ b → cond b (entry ∷ entries_of older m) (entries_of older m) ≡ entries_of older m
    apart false f = refl
    apart true f = absurd (false≢true (sym once.0 ∙ ap (lists names) (sym is ∙ eqb-true (actor entry.0).0 m f) ∙ h))

  go : (b : Bool) → eqb (actor entry.0).0 n ≡ b → length more ≤ length rest + 1 → length (cond b (entry ∷ entries_of older n) (entries_of older n) ++ more) ≤ length (entries_of older n ++ rest) + 1
  go true e few =
      let same : more ≡ rest = flat_same (entries_of (entry ∷ older)) (entries_of older) names (other (eqb-true (actor entry.0).0 n e)) in
      omega (arith, length-append (entries_of older n) more, length-append (entries_of older n) rest, ap (λ (l : List Entry). length l) same)
  go false e few = omega (arith, length-append (entries_of older n) more, length-append (entries_of older n) rest)

few_of : (entries : List Entry) (names : List ℕ) → Distinct names → length (flat_map (entries_of entries) names) ≤ length entries
few_of [] names once = omega (arith, ap (λ (l : List Entry). length l) (none_of names))
few_of (entry ∷ older) names once = omega (arith, one_few entry older names once, few_of older names once)

pub serial_few : (entries : List Entry) → length (serial entries) ≤ length entries
unfolding serial
serial_few entries = few_of entries (committed_names (applied entries)) (named_once (applied entries))

-- ---- the copy
pub serial_copied : (opening : Opening) (entries : List Entry) → IsLegal opening entries → CommittedShareNothing entries → entries_in entries (blocks_of (answered_names entries) entries) ≡ reverse (serial entries)
serial_copied opening entries legal share =
    blocks_are (answered_names entries) entries (answered_once entries)
    ∙ ap (flat_map (entries_of (reverse entries))) (answered_are opening entries legal share)
    ∙ sym (serial_reversed entries)

-- the serial entries may follow an empty history, and are all that is in it then
pub serial_follows : (history : Recorded) → IsLegal history.opening history.entries → length history.entries ≤ history.capacity → CommittedShareNothing history.entries → CanFollow (opened history.opening history.capacity) (reverse (serial history.entries))
unfolding opened
serial_follows history legal within share = record {
  legal = subst (IsLegal history.opening) (sym (append-nil (reverse (reverse (serial history.entries))) ∙ reverse-reverse (serial history.entries))) (serial_legal history.opening history.entries legal share);
  room = omega (arith, length-reverse (serial history.entries), serial_few history.entries);
}

pub serial_followed : (history : Recorded) → followed_by (opened history.opening history.capacity) (reverse (serial history.entries)) ≡ (record history { entries = serial history.entries })
unfolding opened followed_by
serial_followed history = ap (λ (l : List Entry). record history { entries = l }) (append-nil (reverse (reverse (serial history.entries))) ∙ reverse-reverse (serial history.entries))
