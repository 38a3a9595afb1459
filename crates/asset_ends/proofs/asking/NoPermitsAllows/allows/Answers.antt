use Rattle.std.proofs.Common.{rules}
use Rattle.asset_ends.proofs.asking.NoPermitsAllows.allows.Goals as goal

pub returns-clause-allowed : goal.returns-clause-allowed
returns-clause-allowed c = search rules
