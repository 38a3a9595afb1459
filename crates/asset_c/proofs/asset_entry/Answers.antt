use Rattle.std.proofs.Common.{rules}
use Rattle.asset_c.proofs.asset_entry.Goals as goal

pub returns-clause-entry : goal.returns-clause-entry
returns-clause-entry c = search rules
