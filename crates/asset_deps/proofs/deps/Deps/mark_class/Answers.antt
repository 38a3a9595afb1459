use Rattle.std.proofs.Common.{rules}
use Rattle.asset_deps.proofs.deps.Deps.mark_class.Goals as goal

pub returns-clause-marked : goal.returns-clause-marked
returns-clause-marked c = search rules
