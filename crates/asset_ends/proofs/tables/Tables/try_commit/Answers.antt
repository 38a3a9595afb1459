use Rattle.asset_ends.proofs.tables.Tables.try_commit.Goals as goal

pub returns-clause-stand : goal.returns-clause-stand
returns-clause-stand c = rw c.find-status.ensures.name at c.try_commit_at.ensures.stand
