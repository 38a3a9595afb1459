use Rattle.std.proofs.Common.{rules}
use Rattle.asset_bodies.proofs.tx.Tx.into_parts.Goals as goal

pub returns-clause-own : goal.returns-clause-own
returns-clause-own c = search rules
