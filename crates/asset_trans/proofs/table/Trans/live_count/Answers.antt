use Rattle.std.proofs.Common.{rules}
use Rattle.asset_trans.proofs.table.Trans.live_count.Goals as goal

pub returns : goal.returns
returns c = search rules
