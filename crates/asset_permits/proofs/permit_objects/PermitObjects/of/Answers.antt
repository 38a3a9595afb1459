use Rattle.std.proofs.Common.{rules}
use Rattle.asset_names.specs.InSet.{only_in}
use Rattle.asset_permits.proofs.permit_objects.PermitObjects.of.Goals as goal

pub returns-in-Some : goal.returns-in-Some
unfolding only_in
returns-in-Some c = search rules
