use Rattle.std.proofs.Common.{rules}
use Rattle.asset_bodies.proofs.tx.Finished.into_parts.Goals as goal

pub returns-clause-ended : goal.returns-clause-ended
returns-clause-ended c = search rules
