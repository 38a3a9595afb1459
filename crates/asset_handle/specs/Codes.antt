-- The numbers of the codes.
use Rattle.std.specs.Prelude.{ℕ}
use Rattle.asset_handle.specs.declared.codes.Code.{Code}
use Rattle.asset_handle.specs.declared.codes.Code.TheVariants.{Done, Full, NoMemory, Closed, IsOpen, BadCapacity, DoubleObject, BadArgument, Absent}

-- the number of a code
abbrev pub number_of : Code → ℕ
number_of Done = 0
number_of Full = 1
number_of NoMemory = 2
number_of Closed = 3
number_of IsOpen = 4
number_of BadCapacity = 5
number_of DoubleObject = 6
number_of BadArgument = 7
number_of Absent = 8
