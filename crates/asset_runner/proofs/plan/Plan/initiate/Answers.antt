use Rattle.std.proofs.Common.{rules}
use Rattle.asset_runner.proofs.plan.Plan.initiate.Goals as goal

pub returns-clause-asked : goal.returns-clause-asked
returns-clause-asked g c = search rules
