use Rattle.asset_locks.specs.Valid.{after_ask}
use Rattle.asset_ends.specs.Standing.{step_if}
use Rattle.asset_steps.proofs.applying.wait_to_update.Goals as goal

pub returns-clause-stand : goal.returns-clause-stand
unfolding step_if
returns-clause-stand c = rw (c.find.ensures.name, c.requires.blocked) at c.in-Ok.ensures.stand

pub returns-clause-locks : goal.returns-clause-locks
unfolding after_ask
returns-clause-locks c = rw (c.find.ensures.name, c.requires.blocked) at c.in-Ok.ensures.locks
