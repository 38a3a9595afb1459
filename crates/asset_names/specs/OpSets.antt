-- Sets of operations.
use Rattle.std.specs.Prelude.{Bool, true, false}
use Rattle.asset_names.specs.declared.operations.Op.{Op}
use Rattle.asset_names.specs.declared.operations.Op.TheVariants as Op'

-- a set of operations: whether Read is in it, whether Write is, and whether Add is
pub record OpSet : Type 0 where
  pub read : Bool
  pub write : Bool
  pub add : Bool

-- the set that has Read, Write and Add exactly if these are true
abbrev pub op_set : Bool → Bool → Bool → OpSet
op_set read write add = record { read = read; write = write; add = add }

-- whether an operation is in the set
abbrev pub has_op : OpSet → Op → Bool
has_op ops Op'.Read = ops.read
has_op ops Op'.Write = ops.write
has_op ops Op'.Add = ops.add

-- the set of one operation
unfoldable pub only_op : Op → OpSet
only_op Op'.Read = op_set true false false
only_op Op'.Write = op_set false true false
only_op Op'.Add = op_set false false true

-- the set with one more operation
unfoldable pub with_op : Op → OpSet → OpSet
with_op Op'.Read ops = record ops { read = true }
with_op Op'.Write ops = record ops { write = true }
with_op Op'.Add ops = record ops { add = true }
