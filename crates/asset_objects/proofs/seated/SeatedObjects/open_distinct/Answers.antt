use Rattle.std.proofs.Common.{rules}
use Rattle.asset_objects.proofs.seated.SeatedObjects.open_distinct.Goals as goal

pub returns-clause-opened : goal.returns-clause-opened
returns-clause-opened c = search rules
