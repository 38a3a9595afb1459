use Rattle.std.proofs.Common.{rules}
use Rattle.asset_c.proofs.asset_close.Goals as goal

pub returns : goal.returns
returns c = search rules
