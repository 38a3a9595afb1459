use Rattle.std.proofs.Common.{rules}
use Rattle.asset_deps.proofs.deps.Deps.add.Goals as goal

pub add-requires-clause-no_cycle : goal.add-requires-clause-no_cycle
add-requires-clause-no_cycle c = search rules
