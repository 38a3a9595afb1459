use Rattle.std.proofs.Common.{rules}
use Rattle.asset_requests.specs.Limits.{capacity_of}
use Rattle.asset_requests.proofs.limits.capacity_or_default.Goals as goal

pub returns-in-None-clause-value : goal.returns-in-None-clause-value
unfolding capacity_of
returns-in-None-clause-value c = search rules

pub returns-in-Some-2-clause-value : goal.returns-in-Some-2-clause-value
unfolding capacity_of
returns-in-Some-2-clause-value c = search rules

pub returns-in-Some-2-2-clause-value : goal.returns-in-Some-2-2-clause-value
unfolding capacity_of
returns-in-Some-2-2-clause-value c = search rules
