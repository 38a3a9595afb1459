-- Why some objects are no list of objects.
use Rattle.std.specs.Prelude.{◌≡◌, ◌<◌, ◌≤◌, List, [], length}
use Rattle.asset_names.specs.declared.names.Ob.{Ob}
use Rattle.asset_names.specs.declared.sets.SetFault.{SetFault}
use Rattle.asset_names.specs.declared.sets.SetFault.TheVariants.{Empty, TooMany, Double}
use Rattle.asset_names.specs.Sets.{numbers, IsLeastDouble}

-- there is none, there are more than 16, or there are not and this is the least that occurs twice
abbrev pub IsSetFault : List Ob → SetFault → Type 0
IsSetFault objects Empty = objects ≡ []
IsSetFault objects TooMany = 16 < length objects
IsSetFault objects (Double x) = (length objects ≤ 16) × IsLeastDouble (numbers objects) x.0
