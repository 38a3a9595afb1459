-- Marks on the nodes of a search.
use Rattle.std.specs.Prelude.{◌≡◌, ℕ, ◌<◌, ◌≤◌, List, length, slice_index}

-- what contracts see of marks: how many nodes there are, and which are met, in order of meeting
pub record Met : Type 0 where
  pub size : ℕ
  pub nodes : List ℕ

-- each node stands in the order at its position, and the nodes that are met stand first
pub record IsValid (order position : List ℕ) (met : ℕ) : Type 0 where
  pub within : met ≤ length order
  pub same_size : length position ≡ length order
  pub nodes : (i : ℕ) → i < length order → (slice_index order i < length order) × (slice_index position (slice_index order i) ≡ i)
  pub positions : (n : ℕ) → n < length order → (slice_index position n < length order) × (slice_index order (slice_index position n) ≡ n)
