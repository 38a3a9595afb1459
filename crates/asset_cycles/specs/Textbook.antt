-- Cycles in the words of a textbook.
use Rattle.std.specs.Prelude.{ℕ, List}
use Rattle.std.specs.List.{Contains}
use Rattle.asset_names.specs.Arrows.{Arrow, Chain}

-- a reaches b: an arrow leads from a to a node from which a chain of arrows leads to b
abbrev pub Reaches : List Arrow → ℕ → ℕ → Type 0
Reaches arrows a b = (c : ℕ) × Contains arrows (a, c) × Chain arrows c b

-- two nodes are on one cycle: each reaches the other
abbrev pub OnOneCycle : List Arrow → ℕ → ℕ → Type 0
OnOneCycle arrows a b = Reaches arrows a b × Reaches arrows b a
