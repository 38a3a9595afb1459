use Rattle.std.proofs.Common.{rules}
use Rattle.asset_names.specs.OpSets.{only_op}
use Rattle.asset_names.proofs.operations.Ops.only.Goals as goal

pub returns : goal.returns
unfolding only_op
returns c = search rules
