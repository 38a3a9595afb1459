use Rattle.std.proofs.Common.{rules}
use Rattle.asset_ends.proofs.tables.Tables.open.Goals as goal

pub returns-in_err-open-clause-fault : goal.returns-in_err-open-clause-fault
returns-in_err-open-clause-fault c = search rules
