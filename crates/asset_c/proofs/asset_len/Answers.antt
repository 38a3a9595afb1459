use Rattle.std.proofs.Common.{rules}
use Rattle.asset_c.proofs.asset_len.Goals as goal

pub returns-clause-len : goal.returns-clause-len
returns-clause-len c = search rules
