use Rattle.std.proofs.Common.{rules}
use Rattle.asset_names.specs.Answers.{has_ended}
use Rattle.asset_names.proofs.statuses.Status.has_ended.Goals as goal

pub returns-in-Committed : goal.returns-in-Committed
unfolding has_ended
returns-in-Committed c = search rules

pub returns-in_default : goal.returns-in_default
unfolding has_ended
returns-in_default c = search rules
