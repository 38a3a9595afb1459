use Rattle.std.proofs.Common.{rules}
use Rattle.asset_names.specs.Steps.{takes_effect}
use Rattle.asset_names.proofs.outcomes.takes_effect.Goals as goal

pub returns-in-WaitFor : goal.returns-in-WaitFor
unfolding takes_effect
returns-in-WaitFor c = search rules

pub returns-in-Value : goal.returns-in-Value
unfolding takes_effect
returns-in-Value c = search rules

pub returns-in-Committed : goal.returns-in-Committed
unfolding takes_effect
returns-in-Committed c = search rules

pub returns-in-Aborted : goal.returns-in-Aborted
unfolding takes_effect
returns-in-Aborted c = search rules

pub returns-in-Done : goal.returns-in-Done
unfolding takes_effect
returns-in-Done c = search rules
