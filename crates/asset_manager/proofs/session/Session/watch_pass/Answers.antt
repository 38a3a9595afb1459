use Rattle.std.proofs.Common.{rules}
use Rattle.asset_manager.proofs.session.Session.watch_pass.Goals as goal

pub returns-clause-of : goal.returns-clause-of
returns-clause-of c = search rules

pub returns-clause-seen : goal.returns-clause-seen
returns-clause-seen c = search rules
