use Rattle.asset_cli.proofs.ReportAgainLemmas.{pruned_again}
use Rattle.asset_cli.proofs.running.prune_script.Goals as goal

pub returns-clause-again : goal.returns-clause-again
returns-clause-again g c = λ bytes. pruned_again bytes c.args.capacity
