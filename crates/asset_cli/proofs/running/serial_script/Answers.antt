use Rattle.asset_cli.proofs.ReportAgainLemmas.{serial_again}
use Rattle.asset_cli.proofs.running.serial_script.Goals as goal

pub returns-clause-again : goal.returns-clause-again
returns-clause-again g c = λ bytes. serial_again bytes c.args.capacity
