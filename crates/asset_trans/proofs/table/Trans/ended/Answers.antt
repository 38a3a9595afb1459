use Rattle.std.proofs.Common.{rules}
use Rattle.asset_trans.proofs.table.Trans.ended.Goals as goal

pub returns-in-Committed : goal.returns-in-Committed
returns-in-Committed c = search rules
