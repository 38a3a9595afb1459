use Rattle.std.proofs.Common.{rules}
use Rattle.asset_trans.proofs.table.Trans.initiate.Goals as goal

pub returns-clause-done : goal.returns-clause-done
returns-clause-done c = search rules
