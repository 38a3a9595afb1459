use Rattle.std.proofs.Common.{rules}
use Rattle.asset_runner.proofs.plan.session_for.Goals as goal

pub returns-in-Ok-clause-room : goal.returns-in-Ok-clause-room
returns-in-Ok-clause-room c = search rules
