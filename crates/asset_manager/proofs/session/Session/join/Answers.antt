use Rattle.std.proofs.Common.{rules}
use Rattle.asset_manager.proofs.session.Session.join.Goals as goal

pub returns-in-Some-link : goal.returns-in-Some-link
returns-in-Some-link c = search rules
