use Rattle.std.proofs.Common.{rules}
use Rattle.asset_program.proofs.program.say_fault.Goals as goal

pub returns : goal.returns
returns g c = search rules
