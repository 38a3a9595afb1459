use Rattle.std.proofs.Common.{rules}
use Rattle.asset_manager.proofs.session.Session.group_committed.Goals as goal

pub returns : goal.returns
returns c = search rules
