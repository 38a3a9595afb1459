use Rattle.std.proofs.Common.{rules}
use Rattle.asset_chains.proofs.table.Chains.chains.Goals as goal

pub returns : goal.returns
returns c = search rules
