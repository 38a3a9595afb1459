-- Names in order of first use.
use Rattle.std.specs.Prelude.{ℕ, List, [], ◌∷◌}
use Rattle.asset_names.specs.Arrows.{with_name}
use Rattle.asset_names.specs.Steps.{Entry}
use Rattle.asset_names.specs.Groups.{actor, partner}

-- the transactions that the entries' steps act on, in order of first use, and of a step the first before the second
unfoldable pub names_of : List Entry → List ℕ
names_of [] = []
names_of (entry ∷ older) = with_name (with_name (names_of older) (actor entry.0).0) (partner entry.0).0
