-- Rows: each transaction that an entry acts on has one.
use Rattle.std.proofs.Common.{◌≡◌, ℕ, zero, suc, ◌+◌, ◌<◌, Bool, true, false, cond, List, [], ◌∷◌, ◌++◌, length, get_or, drop, take, reverse, refl, sym, ap, subst, ◌∙◌, arith, Some, inl, inr}
use Rattle.std.specs.Prelude.{◌==◌, slice_get, slice_index, flat_map}
use Rattle.std.specs.List.{filter, range_with_len, list_any}
use Rattle.std.proofs.lemmas.Bool.{eq-eqb, eqb-true, or_left, or_right, or_cases, false≢true}
use Rattle.std.proofs.lemmas.List.{drop_more}
use Rattle.std.proofs.lemmas.List.Folds.{list_any-append}
use Rattle.std.proofs.lemmas.List.FromFn.{length-range_with_len, get_or-range_with_len}
use Rattle.std.proofs.lemmas.Option.{slice_get-get_or}
use Rattle.asset_names.specs.Arrows.{lists}
use Rattle.asset_names.specs.Steps.{Entry}
use Rattle.asset_names.specs.Groups.{actor, acted_on, acted_on_by}
use Rattle.asset_names.proofs.ListLemmas.{listed_at, lists_at}
use Rattle.asset_entries.proofs.EntryLemmas.{between}
use Rattle.asset_buckets.specs.Bucketed.{indices_of, indices_below}
use Rattle.asset_deletion.specs.Grouping.{grouping_of}
use Rattle.asset_deletion.proofs.GroupedLemmas.{groups_are}
use Rattle.asset_lanes.specs.Lanes.{name_list, name_at, names_at, members_of, lane_names, row_of}

-- the row after the first ones
pub row_next : (rows : List ℕ) (k n : ℕ) → k < length rows → row_of (drop k rows) n ≡ cond (n == get_or rows k 0) 0 (suc (row_of (drop (k + 1) rows) n))
unfolding row_of
row_next rows k n below = rw (drop_more rows k 0 below) refl

-- who is listed stands in its row
pub row_there : (rows : List ℕ) (n : ℕ) → lists rows n ≡ true → slice_get rows (row_of rows n) ≡ Some n
unfolding lists row_of
row_there [] n h = absurd (false≢true h)
row_there (m ∷ rows) n h = go (row_there rows n) (n == m) refl where
  go : (lists rows n ≡ true → slice_get rows (row_of rows n) ≡ Some n) → (same : Bool) → (n == m) ≡ same → slice_get (m ∷ rows) (cond same 0 (suc (row_of rows n))) ≡ Some n
  go rest true is = ap Some (sym (eqb-true n m is))
  go rest false is =
      elim (or_cases (m == n) (list_any (λ k. k == n) rows) h) [
        | inl here ↦ absurd (false≢true (sym is ∙ eq-eqb n m (sym (eqb-true m n here))))
        | inr later ↦ rest later
      ]

-- what is listed in a part of a list
pub listed_flat : {A : Type 0} (part : A → List ℕ) (xs : List A) (i : ℕ) (d : A) (n : ℕ) → i < length xs → lists (part (get_or xs i d)) n ≡ true → lists (flat_map part xs) n ≡ true
unfolding lists
listed_flat part [] i d n below at = absurd (omega (arith, below))
listed_flat part (x ∷ xs) zero d n below at = list_any-append (λ m. m == n) (part x) (flat_map part xs) ∙ or_left _ _ at
listed_flat part (x ∷ xs) (suc i) d n below at = list_any-append (λ m. m == n) (part x) (flat_map part xs) ∙ or_right _ _ (listed_flat part xs i d n (omega (arith, below)) at)

-- what an entry acts on is listed, whatever is newer or older
listed_among : (newer older : List Entry) (entry : Entry) (n : ℕ) → lists (acted_on_by entry) n ≡ true → lists (acted_on (newer ++ entry ∷ older)) n ≡ true
unfolding acted_on lists
listed_among [] older entry n here = list_any-append (λ m. m == n) (acted_on_by entry) (acted_on older) ∙ or_left _ _ here
listed_among (new ∷ newer) older entry n here = list_any-append (λ m. m == n) (acted_on_by new) (acted_on (newer ++ entry ∷ older)) ∙ or_right _ _ (listed_among newer older entry n here)

-- what a filter keeps is listed
pub listed_kept : (keep : ℕ → Bool) (xs : List ℕ) (n : ℕ) → lists xs n ≡ true → keep n ≡ true → lists (filter keep xs) n ≡ true
unfolding lists
listed_kept keep [] n h kept = absurd (false≢true h)
listed_kept keep (x ∷ xs) n h kept = go (λ later. listed_kept keep xs n later kept) (keep x) refl where
  go : (lists xs n ≡ true → lists (filter keep xs) n ≡ true) → (b : Bool) → keep x ≡ b → lists (cond b (x ∷ filter keep xs) (filter keep xs)) n ≡ true
  go rest true is =
      elim (or_cases (x == n) _ h) [
        | inl here ↦ or_left _ _ here
        | inr later ↦ or_right (x == n) _ (rest later)
      ]
  go rest false is =
      elim (or_cases (x == n) _ h) [
        | inl here ↦ absurd (false≢true (sym is ∙ ap keep (eqb-true x n here) ∙ kept))
        | inr later ↦ rest later
      ]

-- a number below the end of a range is listed in it
pub listed_range : (count n : ℕ) → n < count → lists (range_with_len 0 count) n ≡ true
listed_range count n below = lists_at (range_with_len 0 count) n n (subst (λ (m : ℕ). n < m) (sym (length-range_with_len 0 count)) below) (get_or-range_with_len 0 count n 0 below ∙ omega arith)

-- each of the names has a lane
pub lane_of_name : (entries : List Entry) (n : ℕ) → lists (grouping_of entries).names n ≡ true → lists (lane_names (grouping_of entries)) n ≡ true
unfolding lane_names members_of names_at name_at name_list indices_of indices_below lists
lane_of_name entries n listed =
    let groups = grouping_of entries in
    let are = groups_are entries in
    let found = listed_at groups.names n listed in
    let k = found.0 in
    let g = slice_index groups.numbers k in
    let low : g < groups.count = are.below k found.1 in
    let here : lists (name_at groups k) n ≡ true = rw (slice_get-get_or groups.names k 0 found.1) (or_left _ false (eq-eqb _ n found.2)) in
    let kept : lists (indices_of g groups.numbers) k ≡ true = listed_kept (λ m. slice_index groups.numbers m == g) (range_with_len 0 (length groups.numbers)) k (listed_range (length groups.numbers) k (subst (λ (m : ℕ). k < m) (sym are.long) found.1)) (eq-eqb g g refl) in
    let at = listed_at (indices_of g groups.numbers) k kept in
    let member : lists (members_of groups g) n ≡ true = listed_flat (name_at groups) (indices_of g groups.numbers) at.0 0 n at.1 (subst (λ (m : ℕ). lists (name_at groups m) n ≡ true) (sym at.2) here) in
    let row = listed_at (range_with_len 0 groups.count) g (listed_range groups.count g low) in
    listed_flat (members_of groups) (range_with_len 0 groups.count) row.0 0 n row.1 (subst (λ (m : ℕ). lists (members_of groups m) n ≡ true) (sym row.2) member)

-- the transaction of an entry is one of the names
actor_named : (entries : List Entry) (i : ℕ) (entry : Entry) → slice_get (reverse entries) i ≡ Some entry → lists (grouping_of entries).names (actor entry.0).0 ≡ true
unfolding acted_on acted_on_by lists
actor_named entries i entry at =
    let newer = reverse (drop (i + 1) (reverse entries)) in
    let older = reverse (take i (reverse entries)) in
    let n = (actor entry.0).0 in
    (groups_are entries).acted_on n
    ∙ ap (λ (l : List Entry). lists (acted_on l) n) (sym (between entries i entry at))
    ∙ listed_among newer older entry n (or_left _ _ (eq-eqb n n refl))

-- the transaction of an entry has a lane
pub actor_in_lane : (entries : List Entry) (i : ℕ) (entry : Entry) → slice_get (reverse entries) i ≡ Some entry
    → slice_get (lane_names (grouping_of entries)) (row_of (lane_names (grouping_of entries)) (actor entry.0).0) ≡ Some (actor entry.0).0
actor_in_lane entries i entry at =
    row_there (lane_names (grouping_of entries)) (actor entry.0).0 (lane_of_name entries (actor entry.0).0 (actor_named entries i entry at))
