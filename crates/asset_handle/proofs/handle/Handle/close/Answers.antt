use Rattle.std.proofs.Common.{rules}
use Rattle.asset_handle.proofs.handle.Handle.close.Goals as goal

pub returns-in-Some : goal.returns-in-Some
returns-in-Some c = search rules
