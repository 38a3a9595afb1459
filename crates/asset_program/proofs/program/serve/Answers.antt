use Rattle.std.proofs.Common.{rules}
use Rattle.asset_program.specs.Program.{Serves}
use Rattle.asset_program.proofs.program.serve.Goals as goal

pub returns-in-Some : goal.returns-in-Some
unfolding Serves
returns-in-Some g c = search rules
