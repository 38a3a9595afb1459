-- One more index in its bucket.
use Rattle.std.proofs.Common.{◌≡◌, ℕ, ◌+◌, ◌<◌, cond, eqb, List, [], ◌∷◌, ◌++◌, length, get_or, set, map, refl, sym, ap, ◌∙◌, arith, ◌⊎◌, inl, inr}
use Rattle.std.specs.List.{filter, range_with_len}
use Rattle.std.proofs.lemmas.Bool.{cases_eq, eq-eqb, ne_eqb}
use Rattle.std.proofs.lemmas.List.{append-nil, length-set, map-id, get_or-set_same, get_or-set_other, ext_get_or}
use Rattle.std.proofs.lemmas.List.FromFn.{length-map-range_with_len, get_or-map-range_with_len, map-range_with_len_more, filter_of_map_range_with_len_more}
use Rattle.asset_buckets.specs.Bucketed.{indices_below, indices_of, buckets_of, no_buckets}

-- the indices below the bound, in buckets
unfoldable pub filled : List ℕ → ℕ → ℕ → List (List ℕ)
filled numbers count bound = map (λ number. indices_below bound number numbers) (range_with_len 0 count)

-- one more row without indices
pub one_row_more : (count : ℕ) → no_buckets count ++ [] ∷ [] ≡ no_buckets (count + 1)
unfolding no_buckets
one_row_more count = sym (map-range_with_len_more (λ number. []) 0 count count (omega arith))

-- at first no index is in a bucket, and at last each is
pub none_filled : (numbers : List ℕ) (count : ℕ) → no_buckets count ≡ filled numbers count 0
unfolding no_buckets filled indices_below
none_filled numbers count = refl

pub all_filled : (numbers : List ℕ) (count : ℕ) → filled numbers count (length numbers) ≡ buckets_of numbers count
unfolding filled buckets_of indices_of
all_filled numbers count = refl

-- the bucket of a number has the indices at which it stands
pub bucket_at : (numbers : List ℕ) (count g : ℕ) → g < count → get_or (buckets_of numbers count) g [] ≡ indices_of g numbers
unfolding buckets_of
bucket_at numbers count g below = get_or-map-range_with_len (λ k. indices_of k numbers) 0 count g g [] below (omega arith)

-- the next index goes into the bucket of its number alone
pub next_below : (numbers : List ℕ) (number i : ℕ) → indices_below (i + 1) number numbers ≡ indices_below i number numbers ++ cond (eqb (get_or numbers i 0) number) (i ∷ []) []
unfolding indices_below
next_below numbers number i =
    let test = λ (k : ℕ). eqb (get_or numbers k 0) number in
    ap (filter test) (sym (map-id (range_with_len 0 (i + 1)))) ∙ filter_of_map_range_with_len_more test (λ k. k) 0 i i (omega arith)
    ∙ ap (λ l. filter test l ++ cond (test i) (i ∷ []) []) (map-id (range_with_len 0 i))

filled_at : (numbers : List ℕ) (count bound n : ℕ) → n < count → get_or (filled numbers count bound) n [] ≡ indices_below bound n numbers
unfolding filled
filled_at numbers count bound n below = get_or-map-range_with_len (λ number. indices_below bound number numbers) 0 count n n [] below (omega arith)

filled_long : (numbers : List ℕ) (count bound : ℕ) → length (filled numbers count bound) ≡ count
unfolding filled
filled_long numbers count bound = length-map-range_with_len (λ number. indices_below bound number numbers) 0 count

pub one_filled : (numbers : List ℕ) (count i number : ℕ) → number ≡ get_or numbers i 0 →
    set (filled numbers count i) number (get_or (filled numbers count i) number [] ++ i ∷ []) ≡ filled numbers count (i + 1)
one_filled numbers count i number is =
    let rows = filled numbers count i in
    let row = get_or rows number [] ++ i ∷ [] in
    ext_get_or [] (set rows number row) (filled numbers count (i + 1)) (length-set rows number row ∙ filled_long numbers count i ∙ sym (filled_long numbers count (i + 1)))
    (λ n below.
    let inside : n < count = omega (arith, length-set rows number row, filled_long numbers count i) in
    filled_next n inside (cases_eq n number)) where
      filled_next : (n : ℕ) → n < count → (n ≡ number) ⊎ (n ≡ number → ⊥) → get_or (set (filled numbers count i) number (get_or (filled numbers count i) number [] ++ i ∷ [])) n [] ≡ get_or (filled numbers count (i + 1)) n []
      filled_next n inside (inl same) =
          let row = get_or (filled numbers count i) number [] ++ i ∷ [] in
          rw same (
          get_or-set_same (filled numbers count i) number row [] (omega (arith, same, inside, filled_long numbers count i))
          ∙ ap (λ l. l ++ i ∷ []) (filled_at numbers count i number (omega arith))
          ∙ sym (filled_at numbers count (i + 1) number (omega arith) ∙ next_below numbers number i ∙ ap (λ b. indices_below i number numbers ++ cond b (i ∷ []) []) (eq-eqb (get_or numbers i 0) number (sym is))))
      filled_next n inside (inr other) =
          get_or-set_other (filled numbers count i) number n (get_or (filled numbers count i) number [] ++ i ∷ []) [] other
          ∙ filled_at numbers count i n inside
          ∙ sym (filled_at numbers count (i + 1) n inside ∙ next_below numbers n i ∙ ap (λ b. indices_below i n numbers ++ cond b (i ∷ []) []) (ne_eqb (get_or numbers i 0) n (λ e. other (sym (is ∙ e)))) ∙ append-nil (indices_below i n numbers))
