use Rattle.std.proofs.Common.{rules}
use Rattle.asset_deps.proofs.table.SeatedDeps.marked_count.Goals as goal

pub returns : goal.returns
returns c = search rules
