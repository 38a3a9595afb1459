use Rattle.std.proofs.Common.{rules}
use Rattle.asset_c.proofs.asset_open.Goals as goal

pub returns : goal.returns
returns c = search rules
