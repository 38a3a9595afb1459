-- Nodes on cycles of arrows, and their labels.
use Rattle.std.specs.Prelude.{ℕ, ◌<◌, ◌==◌, ◌&&◌, Bool, List, map, Option}
use Rattle.std.specs.List.{All, find, list_any, range_with_len}
use Rattle.asset_names.specs.Arrows.{Arrow, linked}

-- both ends of each arrow are below the count
abbrev pub AreBelow : List Arrow → ℕ → Type 0
AreBelow arrows count = All (λ (arrow : Arrow). (arrow.0 < count) × (arrow.1 < count)) arrows

-- the arrows, each turned round
abbrev pub turned : List Arrow → List Arrow
turned arrows = map (λ (arrow : Arrow). (arrow.1, arrow.0)) arrows

-- whether a reaches b: an arrow leads from a to a node from which a chain of arrows leads to b
unfoldable pub reaches : List Arrow → ℕ → ℕ → Bool
reaches arrows a b = list_any (λ (arrow : Arrow). arrow.0 == a && linked arrows arrow.1 b) arrows

-- whether two nodes are on one cycle: each reaches the other; a node is on a cycle if it reaches itself
unfoldable pub on_one_cycle : List Arrow → ℕ → ℕ → Bool
on_one_cycle arrows a b = reaches arrows a b && reaches arrows b a

-- the least node below the bound that is on one cycle with the node
unfoldable pub label_below : List Arrow → ℕ → ℕ → Option ℕ
label_below arrows bound node = find (on_one_cycle arrows node) (range_with_len 0 bound)

-- the label of each node below the count: the least one that is on one cycle with it
unfoldable pub cycle_labels : List Arrow → ℕ → List (Option ℕ)
cycle_labels arrows count = map (label_below arrows count) (range_with_len 0 count)
