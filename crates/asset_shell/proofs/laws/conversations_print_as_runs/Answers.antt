use Rattle.asset_shell.proofs.RunLemmas.{prints_as_run}
use Rattle.asset_shell.proofs.TurnLemmas.{stays_said}
use Rattle.asset_shell.proofs.laws.conversations_print_as_runs.Goals as goal

pub returns-clause-as_run : goal.returns-clause-as_run
returns-clause-as_run c = prints_as_run

pub returns-clause-stays : goal.returns-clause-stays
returns-clause-stays c = stays_said
