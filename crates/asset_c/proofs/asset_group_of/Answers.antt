use Rattle.std.proofs.Common.{rules}
use Rattle.asset_c.proofs.asset_group_of.Goals as goal

pub returns-clause-group : goal.returns-clause-group
returns-clause-group c = search rules
