use Rattle.std.proofs.Common.{rules}
use Rattle.asset_lock_store.proofs.allows.SeatedPermitsAllows.allows.Goals as goal

pub returns-else-again-clause-allowed : goal.returns-else-again-clause-allowed
returns-else-again-clause-allowed c = search rules
