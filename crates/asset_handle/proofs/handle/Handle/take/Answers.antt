use Rattle.std.proofs.Common.{rules}
use Rattle.asset_handle.proofs.handle.Handle.take.Goals as goal

pub returns-clause-closed : goal.returns-clause-closed
returns-clause-closed c = search rules
