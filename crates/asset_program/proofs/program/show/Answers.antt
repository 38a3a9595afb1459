use Rattle.std.proofs.Common.{rules}
use Rattle.asset_program.specs.Program.{ShowsAnswer}
use Rattle.asset_program.proofs.ProgramLemmas.{took_some}
use Rattle.asset_program.proofs.program.show.Goals as goal

pub returns-in-Help : goal.returns-in-Help
unfolding ShowsAnswer
returns-in-Help g c = rw c.in-Help.is (search (rules, took_some))
