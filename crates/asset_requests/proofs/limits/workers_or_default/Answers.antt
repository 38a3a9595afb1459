use Rattle.std.proofs.Common.{rules}
use Rattle.asset_requests.specs.Limits.{workers_of}
use Rattle.asset_requests.proofs.limits.workers_or_default.Goals as goal

pub returns-in-Some-clause-value : goal.returns-in-Some-clause-value
unfolding workers_of
returns-in-Some-clause-value c = search rules
