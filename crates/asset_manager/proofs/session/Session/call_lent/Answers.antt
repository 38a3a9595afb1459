use Rattle.std.proofs.Common.{rules}
use Rattle.asset_manager.proofs.session.Session.call_lent.Goals as goal

pub returns-in-Ok-clause-asked : goal.returns-in-Ok-clause-asked
returns-in-Ok-clause-asked g c = search rules
