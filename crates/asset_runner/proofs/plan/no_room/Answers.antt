use Rattle.std.proofs.Common.{rules}
use Rattle.asset_runner.proofs.plan.no_room.Goals as goal

pub returns-clause-cause : goal.returns-clause-cause
returns-clause-cause g c = search rules
