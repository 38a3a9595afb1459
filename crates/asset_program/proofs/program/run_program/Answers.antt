use Rattle.std.proofs.Common.{rules}
use Rattle.asset_program.proofs.program.run_program.Goals as goal

pub returns-in-Err-clause-status : goal.returns-in-Err-clause-status
returns-in-Err-clause-status g c = search rules
