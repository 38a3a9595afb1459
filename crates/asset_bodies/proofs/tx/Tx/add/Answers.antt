use Rattle.std.proofs.Common.{rules}
use Rattle.asset_bodies.proofs.tx.Tx.add.Goals as goal

pub returns-clause-asked : goal.returns-clause-asked
returns-clause-asked g c = search rules
