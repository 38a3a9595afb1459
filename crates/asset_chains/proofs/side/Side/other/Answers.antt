use Rattle.std.proofs.Common.{refl}
use Rattle.asset_chains.proofs.side.Side.other.Goals as goal

pub returns-in-Row : goal.returns-in-Row
returns-in-Row c = rw c.in-Row.is refl
