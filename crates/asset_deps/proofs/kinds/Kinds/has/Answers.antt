use Rattle.std.proofs.Common.{rules}
use Rattle.asset_deps.specs.Reached.{has_kind}
use Rattle.asset_deps.proofs.kinds.Kinds.has.Goals as goal

pub returns-in-Order-Gc : goal.returns-in-Order-Gc
unfolding has_kind
returns-in-Order-Gc c = search rules
