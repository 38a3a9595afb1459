use Rattle.std.proofs.Common.{rules}
use Rattle.asset_handle.proofs.asked.listed_first.Goals as goal

pub returns : goal.returns
returns c = search rules
