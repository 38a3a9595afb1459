-- Nodes that are taken away since they are on no cycle.
use Rattle.std.specs.Prelude.{◌≡◌, ℕ, ◌<◌, true, not, List, slice_index}
use Rattle.asset_names.specs.Arrows.{Arrow, lists, among}
use Rattle.asset_cycles.specs.Cyclic.{on_one_cycle}
use Rattle.asset_cycles.specs.Leaving.{end_at}

-- the cycles are the same without the nodes that are taken away
abbrev pub IsTrimmed : List Arrow → List ℕ → Type 0
IsTrimmed arrows taken = (u v : ℕ) → on_one_cycle (among (λ n. not (lists taken n)) arrows) u v ≡ on_one_cycle arrows u v

-- the first arrows of each node, as many as are counted as passed, lead to nodes that are taken away
abbrev pub ArePassed : List Arrow → List (List ℕ) → List ℕ → List ℕ → Type 0
ArePassed arrows leaving taken passed = (node i : ℕ) → i < slice_index passed node → lists taken (end_at arrows leaving node i) ≡ true
