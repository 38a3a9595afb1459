use Rattle.std.proofs.Common.{rules}
use Rattle.asset_core.proofs.facility.Core.group_committed.Goals as goal

pub returns : goal.returns
returns c = search rules
