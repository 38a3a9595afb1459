use Rattle.std.proofs.Common.{rules}
use Rattle.asset_names.specs.Answers.{commit_outcome}
use Rattle.asset_names.proofs.outcomes.commit_outcome.Goals as goal

pub returns-in-Committed : goal.returns-in-Committed
unfolding commit_outcome
returns-in-Committed c = search rules

pub returns-in-Aborted : goal.returns-in-Aborted
unfolding commit_outcome
returns-in-Aborted c = search rules

pub returns-in_default : goal.returns-in_default
unfolding commit_outcome
returns-in_default c = search rules
