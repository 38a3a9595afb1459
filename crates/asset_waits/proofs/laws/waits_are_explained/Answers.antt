use Rattle.asset_waits.proofs.ExplainedLemmas.{free_is, may_commit_is}
use Rattle.asset_waits.proofs.laws.waits_are_explained.Goals as goal

pub returns-clause-requests : goal.returns-clause-requests
returns-clause-requests c = free_is

pub returns-clause-commits : goal.returns-clause-commits
returns-clause-commits c = may_commit_is
