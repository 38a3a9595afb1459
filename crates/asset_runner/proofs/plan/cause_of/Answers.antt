use Rattle.std.proofs.Common.{rules}
use Rattle.asset_runner.proofs.plan.cause_of.Goals as goal

pub returns-in-Ok-Answer-Refused : goal.returns-in-Ok-Answer-Refused
returns-in-Ok-Answer-Refused c = search rules
