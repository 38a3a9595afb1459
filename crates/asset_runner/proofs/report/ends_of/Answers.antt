use Rattle.std.proofs.Common.{arith}
use Rattle.std.proofs.lemmas.Grind.{common_steps}
use Rattle.asset_runner.proofs.report.ends_of.Goals as goal

pub order-preserved : goal.order-preserved
order-preserved g c = grind (arith, common_steps)
