use Rattle.asset_ends.proofs.tables.Tables.permit.Goals as goal

pub returns-clause-stand : goal.returns-clause-stand
returns-clause-stand c = rw (c.find.ensures.name, c.find-2.ensures.name) at c.permit_at.ensures.stand
