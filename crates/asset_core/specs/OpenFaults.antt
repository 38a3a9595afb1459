-- When nothing is opened.
use Rattle.std.specs.Prelude.{ℕ, ◌≤◌}
use Rattle.asset_names.specs.Sets.{IsLeastDouble, HasNoDouble}
use Rattle.asset_names.specs.Steps.{Opening, objects_of}
use Rattle.asset_core.specs.declared.open_fault.OpenFault.{OpenFault}
use Rattle.asset_core.specs.declared.open_fault.OpenFault.TheVariants.{BadCapacity, DoubleObject, NoMemory}

-- a capacity from 1 to 1,000,000
abbrev pub IsCapacity : ℕ → Type 0
IsCapacity capacity = (1 ≤ capacity) × (capacity ≤ 1000000)

-- the capacity is from 1 to 1,000,000, and no object is given twice
abbrev pub MayOpen : Opening → ℕ → Type 0
MayOpen opening capacity = IsCapacity capacity × HasNoDouble (objects_of opening)

-- the first fault that applies: the capacity, then the least object that is given twice, then memory
abbrev pub IsOpenFault : Opening → ℕ → OpenFault → Type 0
IsOpenFault opening capacity BadCapacity = ¬ IsCapacity capacity
IsOpenFault opening capacity (DoubleObject x) = IsCapacity capacity × IsLeastDouble (objects_of opening) x.0
IsOpenFault opening capacity NoMemory = MayOpen opening capacity
