-- The number of an object among those that stand in a row.
use Rattle.std.specs.Prelude.{ℕ, suc, cond, ◌==◌, List, [], ◌∷◌, Option, None, Some}
use Rattle.std.specs.Option.{option_map}
use Rattle.asset_names.specs.declared.names.Ob.{Ob}

-- how many of these objects stand before the first that has this name; None if none has it
unfoldable pub number_in : List Ob → ℕ → Option ℕ
number_in [] x = None
number_in (y ∷ ys) x = cond (y.0 == x) (Some 0) (option_map suc (number_in ys x))
