use Rattle.std.proofs.Common.{rules}
use Rattle.asset_program.specs.Program.{given_by}
use Rattle.asset_program.proofs.program.run.Goals as goal

pub returns-in-Run : goal.returns-in-Run
unfolding given_by
returns-in-Run g c = rw c.in-Run.is (search rules)

pub returns-in-Waits : goal.returns-in-Waits
unfolding given_by
returns-in-Waits g c = rw c.in-Waits.is (search rules)
