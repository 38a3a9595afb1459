use Rattle.asset_ends.proofs.tables.Tables.permit_any.Goals as goal

pub returns-clause-stand : goal.returns-clause-stand
returns-clause-stand c = rw c.find.ensures.name at c.permit_any_at.ensures.stand
