use Rattle.std.proofs.Common.{rules}
use Rattle.asset_bodies.proofs.tx.Tx.new.Goals as goal

pub returns-clause-own : goal.returns-clause-own
returns-clause-own c = search rules
