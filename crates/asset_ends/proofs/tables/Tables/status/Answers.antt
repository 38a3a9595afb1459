use Rattle.std.proofs.Common.{rules}
use Rattle.asset_ends.proofs.tables.Tables.status.Goals as goal

pub returns-clause-row : goal.returns-clause-row
returns-clause-row c = search rules
