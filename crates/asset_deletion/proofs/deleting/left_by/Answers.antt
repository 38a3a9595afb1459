use Rattle.std.proofs.Common.{rules}
use Rattle.asset_deletion.proofs.deleting.left_by.Goals as goal

pub returns : goal.returns
returns c = search rules
