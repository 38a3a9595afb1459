use Rattle.std.proofs.Common.{rules}
use Rattle.asset_manager.proofs.session.Session.call_turns_lent.Goals as goal

pub returns-in_default-clause-asked : goal.returns-in_default-clause-asked
returns-in_default-clause-asked g c = search rules
