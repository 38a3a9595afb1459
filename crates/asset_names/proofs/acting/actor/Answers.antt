use Rattle.std.proofs.Common.{rules}
use Rattle.asset_names.specs.Groups.{actor}
use Rattle.asset_names.proofs.acting.actor.Goals as goal

pub returns-in-Delegate : goal.returns-in-Delegate
unfolding actor
returns-in-Delegate c = search rules
