-- When no table is opened.
use Rattle.asset_names.specs.Sets.{IsLeastDouble, HasNoDouble}
use Rattle.asset_names.specs.Steps.{Opening, objects_of}
use Rattle.asset_objects.specs.declared.seated.ObjectsFault.{ObjectsFault}
use Rattle.asset_objects.specs.declared.seated.ObjectsFault.TheVariants.{DoubleObject, NoMemory}

-- the least object that is given twice, or memory if no object is
abbrev pub IsObjectsFault : Opening → ObjectsFault → Type 0
IsObjectsFault opening (DoubleObject x) = IsLeastDouble (objects_of opening) x.0
IsObjectsFault opening NoMemory = HasNoDouble (objects_of opening)
