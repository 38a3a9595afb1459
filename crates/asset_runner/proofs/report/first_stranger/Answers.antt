use Rattle.std.proofs.Common.{arith}
use Rattle.std.proofs.lemmas.Grind.{common_steps}
use Rattle.asset_runner.proofs.report.first_stranger.Goals as goal

pub returns-then-is_strange : goal.returns-then-is_strange
returns-then-is_strange g c = grind (arith, common_steps)
