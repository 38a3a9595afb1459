use Rattle.std.proofs.Common.{rules}
use Rattle.asset_history.proofs.committing.committed_at.Goals as goal

pub returns : goal.returns
returns c = search rules
