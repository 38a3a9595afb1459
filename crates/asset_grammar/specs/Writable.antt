-- Steps and objects that a script can say: their numbers and values are in range, as those of the types are.
use Rattle.std.specs.Prelude.{◌≡◌, ℤ, ◌<◌, ◌≤◌, ◌^◌, ◌||◌, true, List, length, IfSome, All as Each}
use Rattle.std.specs.Int.Signed.{mag}
use Rattle.std.specs.List.Sorted.{IsStrictlyIncreasing}
use Rattle.asset_names.specs.declared.names.Txn.{Txn}
use Rattle.asset_names.specs.declared.names.Ob.{Ob}
use Rattle.asset_names.specs.declared.sets.ObSet.{ObSet}
use Rattle.asset_names.specs.declared.sets.ObSet.TheVariants.{All, Listed}
use Rattle.asset_names.specs.declared.steps.Step.{Step}
use Rattle.asset_names.specs.declared.steps.Step.TheVariants.{Initiate, Begin, Read, Write, Add, Complete, Permit, PermitAny, Delegate, Depend, Commit, Abort, WaitFor}
use Rattle.asset_names.specs.OpSets.{OpSet}
use Rattle.asset_names.specs.Sets.{numbers}

-- the number of a transaction
abbrev pub IsName : Txn → Type 0
IsName t = t.0 < 2 ^ 64

-- the number of an object
abbrev pub IsObject : Ob → Type 0
IsObject x = x.0 < 2 ^ 64

abbrev pub AreObjects : List Ob → Type 0
AreObjects objects = Each IsObject objects

-- a value of an object
abbrev pub IsValue : ℤ → Type 0
IsValue v = mag v < 2 ^ 63

-- an operation or more
abbrev pub HasOp : OpSet → Type 0
HasOp ops = (ops.read || ops.write || ops.add) ≡ true

-- a set of objects: all of them, or 1 to 16 in rising order
abbrev pub IsSet : ObSet → Type 0
IsSet All = Unit {0}
IsSet (Listed objects) = (0 < length objects) × (length objects ≤ 16) × IsStrictlyIncreasing (numbers objects) × AreObjects objects

-- a step that a script can say
unfoldable pub IsWritable : Step → Type 0
IsWritable (Initiate t parent) = IsName t × IfSome parent IsName
IsWritable (Begin t) = IsName t
IsWritable (Read t x) = IsName t × IsObject x
IsWritable (Write t x v) = IsName t × IsObject x × IsValue v
IsWritable (Add t x d) = IsName t × IsObject x × IsValue d
IsWritable (Complete t) = IsName t
IsWritable (Permit giver taker obs ops) = IsName giver × IsName taker × IsSet obs × HasOp ops
IsWritable (PermitAny giver obs ops) = IsName giver × IsSet (Listed obs) × HasOp ops
IsWritable (Delegate giver taker obs) = IsName giver × IsName taker × IsSet obs
IsWritable (Depend kind a b) = IsName a × IsName b
IsWritable (Commit t) = IsName t
IsWritable (Abort t) = IsName t
IsWritable (WaitFor t) = IsName t

-- an object line that a script can have
unfoldable pub IsWritableObject : Ob × ℤ → Type 0
IsWritableObject given = IsObject given.0 × IsValue given.1
