use Rattle.std.proofs.Common.{rules}
use Rattle.asset_ends.proofs.tables.Tables.waiters.Goals as goal

pub returns : goal.returns
returns c = search rules
