use Rattle.std.proofs.Common.{rules}
use Rattle.asset_permits.specs.Descriptors.{includes}
use Rattle.asset_permits.proofs.permit.Permit.includes.Goals as goal

pub returns-then-has : goal.returns-then-has
unfolding includes
returns-then-has c = search rules

pub returns-else-has : goal.returns-else-has
unfolding includes
returns-else-has c = search rules
