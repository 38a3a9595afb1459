use Rattle.std.proofs.Common.{rules}
use Rattle.asset_names.specs.Answers.{wait_outcome}
use Rattle.asset_names.proofs.outcomes.wait_outcome.Goals as goal

pub returns-in-Completed : goal.returns-in-Completed
unfolding wait_outcome
returns-in-Completed c = search rules

pub returns-in-Committed : goal.returns-in-Committed
unfolding wait_outcome
returns-in-Committed c = search rules

pub returns-in-Aborted : goal.returns-in-Aborted
unfolding wait_outcome
returns-in-Aborted c = search rules

pub returns-in-Unknown : goal.returns-in-Unknown
unfolding wait_outcome
returns-in-Unknown c = search rules
