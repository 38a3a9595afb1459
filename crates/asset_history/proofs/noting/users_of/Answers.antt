use Rattle.std.proofs.Common.{ap}
use Rattle.asset_history.specs.Users.{users_or_nobody}
use Rattle.asset_history.proofs.noting.users_of.Goals as goal

pub returns-in-Some : goal.returns-in-Some
unfolding users_or_nobody
returns-in-Some c = ap users_or_nobody c.in-Some.ensures.value

pub returns-in-None : goal.returns-in-None
unfolding users_or_nobody
returns-in-None c = ap users_or_nobody c.in-None.ensures.value
