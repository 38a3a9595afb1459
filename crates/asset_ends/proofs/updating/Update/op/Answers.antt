use Rattle.std.proofs.Common.{rules}
use Rattle.asset_ends.specs.Updates.{op_of}
use Rattle.asset_ends.proofs.updating.Update.op.Goals as goal

pub returns-in-Add : goal.returns-in-Add
unfolding op_of
returns-in-Add c = search rules
