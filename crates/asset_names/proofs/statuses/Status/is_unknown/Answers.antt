use Rattle.std.proofs.Common.{rules}
use Rattle.asset_names.specs.Answers.{is_unknown}
use Rattle.asset_names.proofs.statuses.Status.is_unknown.Goals as goal

pub returns-in-Unknown : goal.returns-in-Unknown
unfolding is_unknown
returns-in-Unknown c = search rules

pub returns-in_default : goal.returns-in_default
unfolding is_unknown
returns-in_default c = search rules
