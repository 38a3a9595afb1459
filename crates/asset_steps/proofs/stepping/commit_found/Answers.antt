use Rattle.std.proofs.Common.{sym, ◌∙◌}
use Rattle.asset_steps.proofs.WorkLemmas.{commit_done, commit_stays}
use Rattle.asset_steps.proofs.stepping.commit_found.Goals as goal

pub returns-in-Committed : goal.returns-in-Committed
returns-in-Committed c = commit_done _ _ c.args.one.t c.requires.live (sym c.in-Committed.is ∙ c.try_commit_at.ensures.tried) c.try_commit_at.ensures.stand c.try_commit_at.ensures.locks

pub returns-in-Wait : goal.returns-in-Wait
returns-in-Wait c = commit_stays _ _ c.args.one.t c.requires.live (sym c.in-Wait.is ∙ c.try_commit_at.ensures.tried) c.try_commit_at.ensures.stand c.try_commit_at.ensures.locks
