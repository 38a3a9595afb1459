use Rattle.std.proofs.Common.{rules}
use Rattle.asset_history.proofs.history.History.empty_like.Goals as goal

pub returns : goal.returns
returns c = search rules
