use Rattle.std.proofs.Common.{rules}
use Rattle.asset_core.proofs.facility.Core.first_of.Goals as goal

pub returns : goal.returns
returns c = search rules
