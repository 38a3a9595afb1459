use Rattle.asset_model_laws.proofs.EndLaws.{commit_committed_end, commit_aborted_end, abort_aborted_end}
use Rattle.asset_model_laws.proofs.laws.replies_say_the_end.Goals as goal

pub returns-clause-committed : goal.returns-clause-committed
returns-clause-committed c = commit_committed_end

pub returns-clause-fell : goal.returns-clause-fell
returns-clause-fell c = commit_aborted_end

pub returns-clause-aborted : goal.returns-clause-aborted
returns-clause-aborted c = abort_aborted_end
