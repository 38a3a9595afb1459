use Rattle.std.proofs.Common.{rules}
use Rattle.asset_names.specs.Answers.{is_completed}
use Rattle.asset_names.proofs.statuses.Status.is_completed.Goals as goal

pub returns-in-Completed : goal.returns-in-Completed
unfolding is_completed
returns-in-Completed c = search rules

pub returns-in_default : goal.returns-in_default
unfolding is_completed
returns-in_default c = search rules
