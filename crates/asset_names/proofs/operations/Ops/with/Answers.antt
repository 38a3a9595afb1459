use Rattle.std.proofs.Common.{rules}
use Rattle.asset_names.specs.OpSets.{with_op}
use Rattle.asset_names.proofs.operations.Ops.with.Goals as goal

pub returns : goal.returns
unfolding with_op
returns c = search rules
