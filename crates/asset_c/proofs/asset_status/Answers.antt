use Rattle.std.proofs.Common.{rules}
use Rattle.asset_c.proofs.asset_status.Goals as goal

pub returns-clause-status : goal.returns-clause-status
returns-clause-status c = search rules
