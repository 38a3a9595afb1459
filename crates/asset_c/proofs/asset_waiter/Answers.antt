use Rattle.std.proofs.Common.{rules}
use Rattle.asset_c.proofs.asset_waiter.Goals as goal

pub returns-clause-waiter : goal.returns-clause-waiter
returns-clause-waiter c = search rules
