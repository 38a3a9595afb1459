use Rattle.std.proofs.Common.{rules}
use Rattle.asset_permits.specs.Copies.{copy_of}
use Rattle.asset_permits.proofs.copying.sought_by.Goals as goal

pub returns-clause-asked : goal.returns-clause-asked
unfolding copy_of
returns-clause-asked c = search rules
