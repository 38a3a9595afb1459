use Rattle.std.proofs.Common.{rules}
use Rattle.asset_manager.proofs.session.Session.reserve.Goals as goal

pub returns-clause-room : goal.returns-clause-room
returns-clause-room c = search rules
