use Rattle.std.proofs.Common.{rules}
use Rattle.asset_runner.proofs.plan.Plan.new.Goals as goal

pub returns-clause-own : goal.returns-clause-own
returns-clause-own g c = search rules

pub returns-clause-turns : goal.returns-clause-turns
returns-clause-turns g c = search rules
