use Rattle.std.proofs.Common.{rules}
use Rattle.asset_manager.proofs.session.Session.call_turns.Goals as goal

pub returns-clause-asked : goal.returns-clause-asked
returns-clause-asked g c = search rules
