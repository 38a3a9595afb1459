use Rattle.std.proofs.Common.{rules}
use Rattle.asset_c.proofs.asset_step.Goals as goal

pub returns-clause-step : goal.returns-clause-step
returns-clause-step c = search rules
