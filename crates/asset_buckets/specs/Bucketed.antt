-- Indices in buckets by their numbers.
use Rattle.std.specs.Prelude.{ℕ, ◌==◌, List, [], length, map, slice_index}
use Rattle.std.specs.List.{filter, range_with_len}

-- the indices below the bound at which the list has this number, rising
unfoldable pub indices_below : ℕ → ℕ → List ℕ → List ℕ
indices_below bound number numbers = filter (λ k. slice_index numbers k == number) (range_with_len 0 bound)

-- the indices at which the list has this number, rising
unfoldable pub indices_of : ℕ → List ℕ → List ℕ
indices_of number numbers = indices_below (length numbers) number numbers

-- for each number below the count, in order, the indices at which the list has it
unfoldable pub buckets_of : List ℕ → ℕ → List (List ℕ)
buckets_of numbers count = map (λ number. indices_of number numbers) (range_with_len 0 count)

-- for each number below the count, no indices
unfoldable pub no_buckets : ℕ → List (List ℕ)
no_buckets count = map (λ number. []) (range_with_len 0 count)
