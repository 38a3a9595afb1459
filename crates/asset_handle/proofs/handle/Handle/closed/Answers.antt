use Rattle.std.proofs.Common.{rules}
use Rattle.asset_handle.proofs.handle.Handle.closed.Goals as goal

pub invariant_of-result : goal.invariant_of-result
invariant_of-result c = search rules
