use Rattle.std.proofs.Common.{rules}
use Rattle.asset_program.specs.Exit.{run_status}
use Rattle.asset_program.proofs.exit.status_of_run.Goals as goal

pub returns-in-Ok-BadLine : goal.returns-in-Ok-BadLine
unfolding run_status
returns-in-Ok-BadLine c = search rules
