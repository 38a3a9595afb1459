use Rattle.std.proofs.Common.{sym, ◌∙◌}
use Rattle.asset_ends.proofs.tables.Tables.read.Goals as goal

pub read_at-requires : goal.read_at-requires
read_at-requires c = record { runs = rw c.find.ensures.name c.requires.runs; seat = rw c.find.ensures.name c.find.ensures.seat; number = sym c.number.ensures.number ∙ c.unwrap-number.ensures }

pub returns-clause-stand : goal.returns-clause-stand
returns-clause-stand c = rw c.find.ensures.name at c.read_at.ensures.stand
