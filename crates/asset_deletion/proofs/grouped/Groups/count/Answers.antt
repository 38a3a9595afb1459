use Rattle.std.proofs.Common.{rules}
use Rattle.asset_deletion.proofs.grouped.Groups.count.Goals as goal

pub returns : goal.returns
returns c = search rules
