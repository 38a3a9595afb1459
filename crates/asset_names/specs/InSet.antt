-- What is in a set of objects.
use Rattle.std.specs.Prelude.{ℕ, Bool, true, [], ◌∷◌, Option, Some, None}
use Rattle.asset_names.specs.declared.names.Ob.{Ob}
use Rattle.asset_names.specs.declared.sets.ObSet.{ObSet}
use Rattle.asset_names.specs.declared.sets.ObSet.TheVariants.{All, Listed}
use Rattle.asset_names.specs.Arrows.{lists}
use Rattle.asset_names.specs.Sets.{numbers}

-- whether an object with this number is in the set: in the set of all objects each is, and in a list those that it lists
unfoldable pub in_set : ObSet → ℕ → Bool
in_set All x = true
in_set (Listed list) x = lists (numbers list) x

-- the object of a set that lists one alone
unfoldable pub only_in : ObSet → Option Ob
only_in (Listed (x ∷ [])) = Some x
only_in set = None
