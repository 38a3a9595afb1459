use Rattle.std.proofs.Common.{arith}
use Rattle.std.proofs.lemmas.Grind.{common_steps}
use Rattle.asset_runner.proofs.firsts.note.Goals as goal

pub returns-else-is_err-clause-firsts : goal.returns-else-is_err-clause-firsts
returns-else-is_err-clause-firsts g c = grind (arith, common_steps)
