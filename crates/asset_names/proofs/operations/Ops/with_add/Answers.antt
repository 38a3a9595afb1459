use Rattle.std.proofs.Common.{rules}
use Rattle.asset_names.proofs.operations.Ops.with_add.Goals as goal

pub returns : goal.returns
returns c = search rules
