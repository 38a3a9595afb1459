use Rattle.std.proofs.Common.{rules}
use Rattle.asset_c.proofs.asset_value.Goals as goal

pub returns-clause-value : goal.returns-clause-value
returns-clause-value c = search rules
