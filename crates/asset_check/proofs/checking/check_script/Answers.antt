use Rattle.asset_check.proofs.EndLemmas.{ends_as_run}
use Rattle.asset_check.proofs.checking.check_script.Goals as goal

pub returns-clause-as_run : goal.returns-clause-as_run
returns-clause-as_run g c = ends_as_run
