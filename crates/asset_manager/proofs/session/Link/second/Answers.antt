use Rattle.std.proofs.Common.{rules}
use Rattle.asset_manager.proofs.session.Link.second.Goals as goal

pub returns-clause-given : goal.returns-clause-given
returns-clause-given c = search rules
