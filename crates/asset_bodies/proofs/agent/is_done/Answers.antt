use Rattle.std.proofs.Common.{rules}
use Rattle.asset_bodies.proofs.agent.is_done.Goals as goal

pub returns-in-Some-Ok-Answer-Done : goal.returns-in-Some-Ok-Answer-Done
returns-in-Some-Ok-Answer-Done c = search rules
