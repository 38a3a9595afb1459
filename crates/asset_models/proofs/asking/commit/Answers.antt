use Rattle.asset_models.specs.Courses.{by_commit, commit_course}
use Rattle.asset_models.specs.Follows.{cut_end}
use Rattle.asset_models.proofs.RunLemmas.{commit_follows, ended, cut_short}
use Rattle.asset_models.proofs.asking.commit.Goals as goal

pub returns-in-Committed-clause-follows : goal.returns-in-Committed-clause-follows
unfolding by_commit
returns-in-Committed-clause-follows g c = λ committed aborted. rw c.in-Committed.is at (commit_follows _ _ _ _ c.in-Ok.ensures.answered committed aborted)

pub returns-in-Refused-clause-cut : goal.returns-in-Refused-clause-cut
unfolding by_commit cut_end
returns-in-Refused-clause-cut g c = λ committed aborted. (rw c.in-Refused.is at (commit_follows _ _ _ _ c.in-Ok.ensures.answered committed aborted)).goes _ _ (ended _ _)

pub returns-in-Done-clause-follows : goal.returns-in-Done-clause-follows
unfolding by_commit
returns-in-Done-clause-follows g c = λ committed aborted. rw c.in-Done.is at (commit_follows _ _ _ _ c.in-Ok.ensures.answered committed aborted)

pub returns-in-Value-clause-follows : goal.returns-in-Value-clause-follows
unfolding by_commit
returns-in-Value-clause-follows g c = λ committed aborted. rw c.in-Value.is at (commit_follows _ _ _ _ c.in-Ok.ensures.answered committed aborted)

pub returns-in-Aborted-clause-follows : goal.returns-in-Aborted-clause-follows
unfolding by_commit
returns-in-Aborted-clause-follows g c = λ committed aborted. rw c.in-Aborted.is at (commit_follows _ _ _ _ c.in-Ok.ensures.answered committed aborted)

pub returns-in-Err-clause-cut : goal.returns-in-Err-clause-cut
unfolding commit_course
returns-in-Err-clause-cut g c = λ committed aborted. cut_short _ _ _ _ _ c.in-Err.ensures.same c.in-Err.ensures.cut
