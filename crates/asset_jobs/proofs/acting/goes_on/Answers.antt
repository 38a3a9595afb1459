use Rattle.std.proofs.Common.{rules}
use Rattle.asset_jobs.specs.Acts.{goes_on}
use Rattle.asset_jobs.proofs.acting.goes_on.Goals as goal

pub returns-in-Ok-Answer-Value : goal.returns-in-Ok-Answer-Value
unfolding goes_on
returns-in-Ok-Answer-Value c = search rules
