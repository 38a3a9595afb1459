use Rattle.std.proofs.Common.{rules}
use Rattle.asset_names.specs.Steps.{value_asked}
use Rattle.asset_names.proofs.steps.value_asked.Goals as goal

pub returns-in_default : goal.returns-in_default
unfolding value_asked
returns-in_default c = search rules

pub returns-in-Write : goal.returns-in-Write
unfolding value_asked
returns-in-Write c = search rules
