use Rattle.std.proofs.Common.{rules}
use Rattle.asset_manager.proofs.session.SessionCalls.calls.Goals as goal

pub returns : goal.returns
returns c = search rules
