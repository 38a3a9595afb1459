use Rattle.std.proofs.Common.{rules}
use Rattle.asset_runner.proofs.plan.Plan.reserve.Goals as goal

pub returns-clause-room : goal.returns-clause-room
returns-clause-room g c = search rules
