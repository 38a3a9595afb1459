use Rattle.asset_standing.proofs.StandingLemmas.{ends_as_run}
use Rattle.asset_standing.proofs.laws.waits_end_as_runs.Goals as goal

pub returns : goal.returns
returns c = ends_as_run
