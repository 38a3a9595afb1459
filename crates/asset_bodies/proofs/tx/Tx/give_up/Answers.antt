use Rattle.std.proofs.Common.{rules}
use Rattle.asset_bodies.proofs.tx.Tx.give_up.Goals as goal

pub returns-clause-own : goal.returns-clause-own
returns-clause-own g c = search rules
