use Rattle.std.proofs.Common.{rules}
use Rattle.asset_objects.proofs.seated.SeatedObjects.number_of_only.Goals as goal

pub returns-clause-number : goal.returns-clause-number
returns-clause-number c = search rules

pub returns-clause-none : goal.returns-clause-none
returns-clause-none c = search rules
