use Rattle.std.proofs.Common.{rules}
use Rattle.asset_sources.proofs.trace.Trace.of.Goals as goal

pub invariant_of-result : goal.invariant_of-result
invariant_of-result c = search rules
