use Rattle.std.proofs.Common.{rules}
use Rattle.asset_lists.specs.Placed.{section_in}
use Rattle.asset_lists.proofs.table.section_at.Goals as goal

pub returns-then-position-row : goal.returns-then-position-row
unfolding section_in
returns-then-position-row c = search rules
