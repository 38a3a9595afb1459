-- The arrows that lead from a node, by their indices.
use Rattle.std.proofs.Common.{◌≡◌, ℕ, ◌<◌, Bool, true, eqb, ◌&&◌, List, [], length, get_or, map, refl, sym, ap, subst, ◌∙◌, zero-add, arith, inl, inr}
use Rattle.std.specs.List.{filter, range_with_len, All, Contains}
use Rattle.std.proofs.lemmas.Bool.{and_parts, and_from, eqb-true, eq-eqb, cases_lt}
use Rattle.std.proofs.lemmas.List.{get_or-map, length-map, get_or_default, get_or_past, get_or_read}
use Rattle.std.proofs.lemmas.List.Folds.{Any-from_list_any, list_any_at}
use Rattle.std.proofs.lemmas.List.FromFn.{get_or-range_with_len, length-range_with_len, get_or-map-range_with_len, length-map-range_with_len}
use Rattle.std.proofs.lemmas.List.Elements.{filter_passes, All-map, All-filter, All-get_or, All-from_get_or}
use Rattle.asset_names.specs.Arrows.{Arrow, has_arrow, lists}
use Rattle.asset_names.proofs.ListLemmas.{lists_at, listed_at, listed_any, any_filter}
use Rattle.asset_buckets.specs.Bucketed.{indices_below, indices_of, buckets_of}
use Rattle.asset_marks.specs.Searched.{AreWithin}
use Rattle.asset_cycles.specs.Cyclic.{AreBelow, turned}

-- the node from which an arrow leads, and what stands where no arrow does
abbrev pub start_of : Arrow → ℕ
start_of arrow = arrow.0

abbrev pub no_arrow : Arrow
no_arrow = (0, 0)

-- ---- an arrow stands at an index
pub leads_at : (arrows : List Arrow) (k : ℕ) → k < length arrows → has_arrow arrows (get_or arrows k no_arrow).0 (get_or arrows k no_arrow).1 ≡ true
unfolding has_arrow
leads_at arrows k below =
    let one = get_or arrows k no_arrow in
    list_any_at (λ (arrow : Arrow). eqb arrow.0 one.0 && eqb arrow.1 one.1) arrows k no_arrow below (and_from (eqb one.0 one.0) (eqb one.1 one.1) (eq-eqb one.0 one.0 refl) (eq-eqb one.1 one.1 refl))

pub arrow_at : (arrows : List Arrow) (a b : ℕ) → has_arrow arrows a b ≡ true → (k : ℕ) × (k < length arrows) × ((get_or arrows k no_arrow).0 ≡ a) × ((get_or arrows k no_arrow).1 ≡ b)
unfolding has_arrow
arrow_at arrows a b h =
    let found = Any-from_list_any (λ (arrow : Arrow). eqb arrow.0 a && eqb arrow.1 b) arrows h in
    let is : get_or arrows found.0 no_arrow ≡ found.1 = get_or_default arrows found.0 no_arrow found.1 found.2 ∙ found.3 in
    let ends = and_parts (eqb found.1.0 a) (eqb found.1.1 b) found.4 in
    (found.0, found.2, ap (λ (one : Arrow). one.0) is ∙ eqb-true found.1.0 a ends.0, ap (λ (one : Arrow). one.1) is ∙ eqb-true found.1.1 b ends.1)

-- ---- what a filter of the numbers below a bound has
all_below : (n : ℕ) → All (λ k. k < n) (range_with_len 0 n)
all_below n = All-from_get_or (λ k. k < n) (range_with_len 0 n) 0 (λ i below. let inside : i < n = omega (arith, length-range_with_len 0 n) in rw (get_or-range_with_len 0 n i 0 inside) (omega arith))

pub kept_at : (test : ℕ → Bool) (n i : ℕ) → i < length (filter test (range_with_len 0 n)) → (get_or (filter test (range_with_len 0 n)) i 0 < n) × (test (get_or (filter test (range_with_len 0 n)) i 0) ≡ true)
kept_at test n i below =
    (All-get_or (λ k. k < n) (filter test (range_with_len 0 n)) i 0 below (All-filter test (λ k. k < n) (range_with_len 0 n) (all_below n)), All-get_or (λ k. test k ≡ true) (filter test (range_with_len 0 n)) i 0 below (filter_passes test (range_with_len 0 n)))

pub keeps : (test : ℕ → Bool) (n k : ℕ) → k < n → test k ≡ true → lists (filter test (range_with_len 0 n)) k ≡ true
unfolding lists
keeps test n k below passes =
    any_filter (λ m. eqb m k) test (range_with_len 0 n)
    ∙ listed_any (λ m. test m && eqb m k) (range_with_len 0 n) k
    (lists_at (range_with_len 0 n) k k (omega (arith, length-range_with_len 0 n)) (get_or-range_with_len 0 n k 0 below ∙ zero-add k))
    (and_from (test k) (eqb k k) passes (eq-eqb k k refl))

-- ---- the indices of the arrows that lead from a node
pub leaving_at : (arrows : List Arrow) (leaving : List (List ℕ)) (node : ℕ) → leaving ≡ buckets_of (map start_of arrows) (length leaving) → node < length leaving → get_or leaving node [] ≡ indices_of node (map start_of arrows)
unfolding buckets_of
leaving_at arrows leaving node is below =
    ap (λ (rows : List (List ℕ)). get_or rows node []) is
    ∙ get_or-map-range_with_len (λ n. indices_of n (map start_of arrows)) 0 (length leaving) node node [] below (omega arith)

pub index_leads : (arrows : List Arrow) (node i : ℕ) → i < length (indices_of node (map start_of arrows))
    → (get_or (indices_of node (map start_of arrows)) i 0 < length arrows) × ((get_or arrows (get_or (indices_of node (map start_of arrows)) i 0) no_arrow).0 ≡ node)
unfolding indices_of indices_below
index_leads arrows node i below =
    let numbers = map start_of arrows in
    let kept = kept_at (λ k. eqb (get_or numbers k 0) node) (length numbers) i below in
    let inside = subst (λ n. get_or (indices_of node numbers) i 0 < n) (length-map arrows start_of) kept.0 in
    (inside, sym (get_or-map start_of arrows (get_or (indices_of node numbers) i 0) no_arrow 0 inside) ∙ eqb-true _ node kept.1)

pub has_index : (arrows : List Arrow) (node k : ℕ) → k < length arrows → (get_or arrows k no_arrow).0 ≡ node → lists (indices_of node (map start_of arrows)) k ≡ true
unfolding indices_of indices_below
has_index arrows node k below is =
    let numbers = map start_of arrows in
    keeps (λ n. eqb (get_or numbers n 0) node) (length numbers) k (rw (length-map arrows start_of) below) (eq-eqb (get_or numbers k 0) node (get_or-map start_of arrows k no_arrow 0 below ∙ is))

-- ---- how many buckets there are
pub bucket_count : (numbers : List ℕ) (count : ℕ) → length (buckets_of numbers count) ≡ count
unfolding buckets_of
bucket_count numbers count = length-map-range_with_len (λ n. indices_of n numbers) 0 count

-- ---- the row of a node
-- a node whose row has an index is one of those that there are
row_within : (leaving : List (List ℕ)) (node i : ℕ) → i < length (get_or leaving node []) → node < length leaving
row_within leaving node i inside = elim (cases_lt node (length leaving)) [
  | inl below ↦ below
  | inr past ↦ absurd (omega (arith, inside, ap (length {A = ℕ}) (get_or_past leaving node [] past)))
]

-- the next index of the row is that of an arrow that leads from the node
pub row_leads : (arrows : List Arrow) (leaving : List (List ℕ)) (row : List ℕ) (node i : ℕ) → leaving ≡ buckets_of (map start_of arrows) (length leaving) → row ≡ get_or leaving node [] → i < length row
    → (get_or row i 0 < length arrows) × ((get_or arrows (get_or row i 0) no_arrow).0 ≡ node)
row_leads arrows leaving row node i is row_is inside =
    let below = row_within leaving node i (subst (λ (l : List ℕ). i < length l) row_is inside) in
    let here : row ≡ indices_of node (map start_of arrows) = row_is ∙ leaving_at arrows leaving node is below in
    let within : i < length (indices_of node (map start_of arrows)) = subst (λ (l : List ℕ). i < length l) here inside in
    rw here (index_leads arrows node i within)

-- an arrow that is read leads from the node
pub read_leads : (arrows : List Arrow) (node k : ℕ) (read : Arrow) → k < length arrows → (get_or arrows k no_arrow).0 ≡ node → read ≡ get_or arrows k read → (has_arrow arrows node read.1 ≡ true) × (read.1 ≡ (get_or arrows k no_arrow).1)
read_leads arrows node k read below from is =
    let same : read ≡ get_or arrows k no_arrow = get_or_read arrows k read below is no_arrow in
    (rw same (subst (λ n. has_arrow arrows n (get_or arrows k no_arrow).1 ≡ true) from (leads_at arrows k below)), ap (λ (one : Arrow). one.1) same)

-- each arrow that leads from the node has an index in its row
pub row_has : (arrows : List Arrow) (leaving : List (List ℕ)) (node t : ℕ) → leaving ≡ buckets_of (map start_of arrows) (length leaving) → AreBelow arrows (length leaving) → has_arrow arrows node t ≡ true
    → (i : ℕ) × (i < length (get_or leaving node [])) × ((get_or arrows (get_or (get_or leaving node []) i 0) no_arrow).1 ≡ t)
row_has arrows leaving node t is below arrow =
    let found = arrow_at arrows node t arrow in
    let here = leaving_at arrows leaving node is (omega (arith, (below found.0 no_arrow found.1).0, found.2)) in
    let at = listed_at (indices_of node (map start_of arrows)) found.0 (has_index arrows node found.0 found.1 found.2) in
    rw here ((at.0, at.1, ap (λ k. (get_or arrows k no_arrow).1) at.2 ∙ found.3))

-- each arrow leads to a node that there is
pub below_within : (arrows : List Arrow) (count : ℕ) → AreBelow arrows count → AreWithin arrows count
below_within arrows count below u t arrow =
    let found = arrow_at arrows u t arrow in
    omega (arith, (below found.0 no_arrow found.1).1, found.3)

-- ---- arrows that are turned round
pub turned_below : (arrows : List Arrow) (count : ℕ) → AreBelow arrows count → AreBelow (turned arrows) count
turned_below arrows count below = All-map (λ (arrow : Arrow). (arrow.0 < count) × (arrow.1 < count)) (λ (arrow : Arrow). (arrow.1, arrow.0)) arrows (λ k d inside. let ends = below k d inside in (ends.1, ends.0))

-- an arrow that leads is listed
pub contains_arrow : (arrows : List Arrow) (a b : ℕ) → has_arrow arrows a b ≡ true → Contains arrows (a, b)
contains_arrow arrows a b h =
    let found = arrow_at arrows a b h in
    (found.0, found.1, get_or_default arrows found.0 (a, b) no_arrow found.1 ∙ (λ m. (found.2 m, found.3 m)))
