use Rattle.std.proofs.Common.{rules}
use Rattle.asset_manager.proofs.manager.Manager.close.Goals as goal

pub returns-clause-audit : goal.returns-clause-audit
returns-clause-audit c = search rules
