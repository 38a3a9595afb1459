use Rattle.asset_laws.proofs.ClassLemmas.{ends_aborted, takes_itself, takes_closed, takes_least}
use Rattle.asset_laws.proofs.dependencies.abort_takes_the_least.Goals as goal

pub returns-clause-aborted : goal.returns-clause-aborted
returns-clause-aborted c = λ t steps n. ends_aborted t steps n

pub returns-clause-itself : goal.returns-clause-itself
returns-clause-itself c = λ t steps alive. takes_itself t steps alive

pub returns-clause-closed : goal.returns-clause-closed
returns-clause-closed c = λ t steps alive. takes_closed t steps

pub returns-clause-least : goal.returns-clause-least
returns-clause-least c = λ t steps taken alive closed here n ended. takes_least t steps taken closed here n ended
