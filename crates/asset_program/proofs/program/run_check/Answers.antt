use Rattle.std.proofs.Common.{rules}
use Rattle.asset_program.proofs.program.run_check.Goals as goal

pub returns : goal.returns
returns g c = search rules
