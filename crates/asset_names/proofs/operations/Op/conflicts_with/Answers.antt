use Rattle.std.proofs.Common.{rules}
use Rattle.asset_names.specs.Operations.{conflict}
use Rattle.asset_names.proofs.operations.Op.conflicts_with.Goals as goal

pub returns-else-eq : goal.returns-else-eq
unfolding conflict
returns-else-eq c = search rules
