use Rattle.std.proofs.Common.{rules}
use Rattle.asset_bodies.proofs.tx.Tx.name.Goals as goal

pub returns : goal.returns
returns c = search rules
