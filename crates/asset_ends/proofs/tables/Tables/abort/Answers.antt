use Rattle.asset_ends.proofs.tables.Tables.abort.Goals as goal

pub returns-clause-stand : goal.returns-clause-stand
returns-clause-stand c = rw c.find.ensures.name at c.abort_at.ensures.stand
