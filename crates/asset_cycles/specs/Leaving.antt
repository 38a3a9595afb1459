-- The arrows that lead from a node, by their indices.
use Rattle.std.specs.Prelude.{ℕ, List, [], slice_index, slice_index_or}
use Rattle.asset_names.specs.Arrows.{Arrow}

-- where the arrow at an index leads, among those from the node: `leaving` has for each node the indices of its arrows
abbrev pub end_at : List Arrow → List (List ℕ) → ℕ → ℕ → ℕ
end_at arrows leaving node i = (slice_index_or arrows (slice_index (slice_index_or leaving node []) i) (0, 0)).1
