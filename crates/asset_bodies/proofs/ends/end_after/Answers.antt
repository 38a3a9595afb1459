use Rattle.std.proofs.Common.{arith}
use Rattle.std.proofs.lemmas.Grind.{common_steps}
use Rattle.asset_bodies.proofs.ends.end_after.Goals as goal

pub returns-in-Committed : goal.returns-in-Committed
returns-in-Committed c = grind (arith, common_steps)
