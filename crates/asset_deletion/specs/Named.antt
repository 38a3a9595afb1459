-- Labels that say which names are of one group.
use Rattle.std.specs.Prelude.{◌≡◌, ℕ, ◌<◌, ◌≤◌, Bool, false, nat_eq, List, length, slice_index}
use Rattle.asset_names.specs.Arrows.{lists}

-- Each name's label is the index of the first name that it leads to or comes from, and two names have one label exactly if they
-- lead to each other. A name that is not listed leads to itself alone.
pub record Means (leads : ℕ → ℕ → Bool) (names labels : List ℕ) : Type 0 where
  pub long : length labels ≡ length names
  pub low : (k : ℕ) → k < length names → slice_index labels k ≤ k
  pub own : (k : ℕ) → k < length names → slice_index labels (slice_index labels k) ≡ slice_index labels k
  pub same : (i j : ℕ) → i < length names → j < length names → nat_eq (slice_index labels i) (slice_index labels j) ≡ leads (slice_index names i) (slice_index names j)
  pub first : (n m : ℕ) → lists names n ≡ false → leads n m ≡ nat_eq n m
  pub second : (n m : ℕ) → lists names m ≡ false → leads n m ≡ nat_eq n m

-- Each name has the number of its group, below the count, and two names have one number exactly if they lead to
-- each other. Only the name itself leads to a name that is not listed.
pub record IsNumbered (leads : ℕ → ℕ → Bool) (names numbers : List ℕ) (count : ℕ) : Type 0 where
  pub long : length numbers ≡ length names
  pub below : (k : ℕ) → k < length names → slice_index numbers k < count
  pub same : (i j : ℕ) → i < length names → j < length names → nat_eq (slice_index numbers i) (slice_index numbers j) ≡ leads (slice_index names i) (slice_index names j)
  pub second : (n m : ℕ) → lists names m ≡ false → leads n m ≡ nat_eq n m
