-- The parts of a text that are still to come.
use Rattle.std.specs.Prelude.{ℕ, Bool, true, false, List, []}
use Rattle.asset_grammar.specs.Words.{parts}

-- the parts of what is left of a text, or none once the last one is gone
unfoldable pub parts_left : Bool → ℕ → List ℕ → List (List ℕ)
parts_left true separator text = []
parts_left false separator text = parts separator text
