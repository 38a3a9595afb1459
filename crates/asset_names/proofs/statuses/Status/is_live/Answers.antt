use Rattle.std.proofs.Common.{rules}
use Rattle.asset_names.specs.Endings.{is_live_status}
use Rattle.asset_names.proofs.statuses.Status.is_live.Goals as goal

pub returns-in-Initiated : goal.returns-in-Initiated
unfolding is_live_status
returns-in-Initiated c = search rules

pub returns-in_default : goal.returns-in_default
unfolding is_live_status
returns-in_default c = search rules
