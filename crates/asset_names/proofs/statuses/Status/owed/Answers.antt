use Rattle.std.proofs.Common.{rules}
use Rattle.asset_names.specs.Room.{owed_to}
use Rattle.asset_names.proofs.statuses.Status.owed.Goals as goal

pub returns-in-Completed : goal.returns-in-Completed
unfolding owed_to
returns-in-Completed c = search rules

pub returns-in-Initiated : goal.returns-in-Initiated
unfolding owed_to
returns-in-Initiated c = search rules

pub returns-in-Unknown : goal.returns-in-Unknown
unfolding owed_to
returns-in-Unknown c = search rules
