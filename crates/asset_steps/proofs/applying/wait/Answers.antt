use Rattle.std.proofs.Common.{refl}
use Rattle.asset_ends.specs.Updates.{op_of}
use Rattle.asset_steps.specs.Ready.{locks_waiting}
use Rattle.asset_steps.proofs.applying.wait.Goals as goal

pub returns-in-Read-clause-locks : goal.returns-in-Read-clause-locks
unfolding locks_waiting
returns-in-Read-clause-locks c = rw c.in-Read.is c.wait_to_read.ensures.locks

pub returns-in-Write-clause-locks : goal.returns-in-Write-clause-locks
unfolding locks_waiting op_of
returns-in-Write-clause-locks c = rw c.in-Write.is c.wait_to_update.ensures.locks

pub returns-in-Add-clause-locks : goal.returns-in-Add-clause-locks
unfolding locks_waiting op_of
returns-in-Add-clause-locks c = rw c.in-Add.is c.wait_to_update-in-Add.ensures.locks

pub returns-in-Initiate-clause-locks : goal.returns-in-Initiate-clause-locks
unfolding locks_waiting
returns-in-Initiate-clause-locks c = rw c.in-Initiate.is refl

pub returns-in-Begin-clause-locks : goal.returns-in-Begin-clause-locks
unfolding locks_waiting
returns-in-Begin-clause-locks c = rw c.in-Begin.is refl

pub returns-in-Complete-clause-locks : goal.returns-in-Complete-clause-locks
unfolding locks_waiting
returns-in-Complete-clause-locks c = rw c.in-Complete.is refl

pub returns-in-Commit-clause-locks : goal.returns-in-Commit-clause-locks
unfolding locks_waiting
returns-in-Commit-clause-locks c = rw c.in-Commit.is refl

pub returns-in-Abort-clause-locks : goal.returns-in-Abort-clause-locks
unfolding locks_waiting
returns-in-Abort-clause-locks c = rw c.in-Abort.is refl

pub returns-in-WaitFor-clause-locks : goal.returns-in-WaitFor-clause-locks
unfolding locks_waiting
returns-in-WaitFor-clause-locks c = rw c.in-WaitFor.is refl

pub returns-in-PermitAny-clause-locks : goal.returns-in-PermitAny-clause-locks
unfolding locks_waiting
returns-in-PermitAny-clause-locks c = rw c.in-PermitAny.is refl

pub returns-in-Permit-clause-locks : goal.returns-in-Permit-clause-locks
unfolding locks_waiting
returns-in-Permit-clause-locks c = rw c.in-Permit.is refl

pub returns-in-Delegate-clause-locks : goal.returns-in-Delegate-clause-locks
unfolding locks_waiting
returns-in-Delegate-clause-locks c = rw c.in-Delegate.is refl

pub returns-in-Depend-clause-locks : goal.returns-in-Depend-clause-locks
unfolding locks_waiting
returns-in-Depend-clause-locks c = rw c.in-Depend.is refl

pub wait_to_update-requires-clause-blocked : goal.wait_to_update-requires-clause-blocked
unfolding op_of
wait_to_update-requires-clause-blocked c = (rw c.in-Write.is at c.requires.waits).1

pub wait_to_update-requires-in-Add-clause-blocked : goal.wait_to_update-requires-in-Add-clause-blocked
unfolding op_of
wait_to_update-requires-in-Add-clause-blocked c = (rw c.in-Add.is at c.requires.waits).1
