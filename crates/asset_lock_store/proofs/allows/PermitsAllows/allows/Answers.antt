use Rattle.std.proofs.Common.{rules}
use Rattle.asset_lock_store.proofs.allows.PermitsAllows.allows.Goals as goal

pub returns-clause-allowed : goal.returns-clause-allowed
returns-clause-allowed c = search rules
