use Rattle.std.proofs.Common.{◌≡◌, refl, w64, to_z, of_z, arith}
use Rattle.std.proofs.lemmas.Int.{to_z-of_z}
use Rattle.asset_names.specs.Answers.{takes_memory}
use Rattle.asset_locks.specs.Valid.{after_ask}
use Rattle.asset_ends.specs.Standing.{step_if}
use Rattle.asset_names.specs.Steps.{value_asked}
use Rattle.asset_names.proofs.Common.{on_ok, always_ok}
use Rattle.asset_steps.specs.Ready.{locks_after}
use Rattle.asset_ends.proofs.StandingLemmas.{always_err}
use Rattle.asset_ends.proofs.ShowsLemmas.{wait_shows}
use Rattle.asset_steps.proofs.applying.apply_step.Goals as goal

pub returns-in-Initiate-clause-stand : goal.returns-in-Initiate-clause-stand
returns-in-Initiate-clause-stand c = rw c.in-Initiate.is c.initiate.ensures.stand

pub returns-in-Initiate-clause-locks : goal.returns-in-Initiate-clause-locks
unfolding locks_after
returns-in-Initiate-clause-locks c = rw c.in-Initiate.is c.initiate.ensures.locks

pub returns-in-Initiate-clause-memory : goal.returns-in-Initiate-clause-memory
unfolding takes_memory
returns-in-Initiate-clause-memory c = rw c.in-Initiate.is (always_err c.initiate.result refl)

pub returns-in-Begin-clause-stand : goal.returns-in-Begin-clause-stand
returns-in-Begin-clause-stand c = rw c.in-Begin.is (λ opening steps stand orderly. c.begin.ensures.stand opening steps stand)

pub returns-in-Begin-clause-locks : goal.returns-in-Begin-clause-locks
unfolding locks_after
returns-in-Begin-clause-locks c = rw c.in-Begin.is c.begin.ensures.locks

pub returns-in-Complete-clause-stand : goal.returns-in-Complete-clause-stand
returns-in-Complete-clause-stand c = rw c.in-Complete.is (λ opening steps stand orderly. c.complete.ensures.stand opening steps stand)

pub returns-in-Complete-clause-locks : goal.returns-in-Complete-clause-locks
unfolding locks_after
returns-in-Complete-clause-locks c = rw c.in-Complete.is c.complete.ensures.locks

pub returns-in-Commit-clause-stand : goal.returns-in-Commit-clause-stand
returns-in-Commit-clause-stand c = rw c.in-Commit.is (λ opening steps stand orderly. c.commit.ensures.stand opening steps stand)

pub returns-in-Commit-clause-locks : goal.returns-in-Commit-clause-locks
unfolding locks_after
returns-in-Commit-clause-locks c = rw c.in-Commit.is c.commit.ensures.locks

pub returns-in-Abort-clause-stand : goal.returns-in-Abort-clause-stand
returns-in-Abort-clause-stand c = rw c.in-Abort.is (λ opening steps stand orderly. c.abort.ensures.stand opening steps stand)

pub returns-in-Abort-clause-locks : goal.returns-in-Abort-clause-locks
unfolding locks_after
returns-in-Abort-clause-locks c = rw c.in-Abort.is c.abort.ensures.locks

pub returns-in-WaitFor-clause-stand : goal.returns-in-WaitFor-clause-stand
returns-in-WaitFor-clause-stand c = rw c.in-WaitFor.is (λ opening steps stand orderly. wait_shows opening steps _ _ _ _ _ c.in-WaitFor.t stand)

pub returns-in-WaitFor-clause-locks : goal.returns-in-WaitFor-clause-locks
unfolding locks_after
returns-in-WaitFor-clause-locks c = rw c.in-WaitFor.is refl

pub returns-in-PermitAny-clause-stand : goal.returns-in-PermitAny-clause-stand
returns-in-PermitAny-clause-stand c = rw c.in-PermitAny.is (on_ok c.permit_any.result (λ stands. λ opening steps stand orderly. stands opening steps stand) c.permit_any.ensures.stand)

pub returns-in-PermitAny-clause-locks : goal.returns-in-PermitAny-clause-locks
unfolding locks_after
returns-in-PermitAny-clause-locks c = rw c.in-PermitAny.is (always_ok c.permit_any.result c.permit_any.ensures.locks)

pub returns-in-PermitAny-clause-memory : goal.returns-in-PermitAny-clause-memory
unfolding takes_memory
returns-in-PermitAny-clause-memory c = rw c.in-PermitAny.is (always_err c.permit_any.result refl)

pub returns-in-Permit-clause-stand : goal.returns-in-Permit-clause-stand
returns-in-Permit-clause-stand c = rw c.in-Permit.is (on_ok c.permit.result (λ stands. λ opening steps stand orderly. stands opening steps stand) c.permit.ensures.stand)

pub returns-in-Permit-clause-locks : goal.returns-in-Permit-clause-locks
unfolding locks_after
returns-in-Permit-clause-locks c = rw c.in-Permit.is (always_ok c.permit.result c.permit.ensures.locks)

pub returns-in-Permit-clause-memory : goal.returns-in-Permit-clause-memory
unfolding takes_memory
returns-in-Permit-clause-memory c = rw c.in-Permit.is (always_err c.permit.result refl)

pub returns-in_err-read-in-Read-clause-memory : goal.returns-in_err-read-in-Read-clause-memory
unfolding takes_memory
returns-in_err-read-in-Read-clause-memory c = rw c.in-Read.is (always_err c.from_residual.result refl)

pub returns-in_err-write-in-Write-clause-memory : goal.returns-in_err-write-in-Write-clause-memory
unfolding takes_memory
returns-in_err-write-in-Write-clause-memory c = rw c.in-Write.is (always_err c.from_residual-in_err-write-in-Write.result refl)

pub returns-in_err-add-in-Add-clause-memory : goal.returns-in_err-add-in-Add-clause-memory
unfolding takes_memory
returns-in_err-add-in-Add-clause-memory c = rw c.in-Add.is (always_err c.from_residual-in_err-add-in-Add.result refl)

pub returns-in_ok-read-in-Read-clause-stand : goal.returns-in_ok-read-in-Read-clause-stand
unfolding step_if
returns-in_ok-read-in-Read-clause-stand c =
    let free = (rw c.in-Read.is at c.requires.ready).1 in
    rw c.in-Read.is (λ opening steps stand orderly. (rw free at c.in_ok-read-in-Read.ensures.stand) opening steps stand)

pub returns-in_ok-read-in-Read-clause-locks : goal.returns-in_ok-read-in-Read-clause-locks
unfolding locks_after after_ask
returns-in_ok-read-in-Read-clause-locks c =
    let free = (rw c.in-Read.is at c.requires.ready).1 in
    rw c.in-Read.is (rw free at c.in_ok-read-in-Read.ensures.locks)

pub returns-in_ok-write-in-Write-clause-stand : goal.returns-in_ok-write-in-Write-clause-stand
unfolding step_if value_asked
returns-in_ok-write-in-Write-clause-stand c =
    let fits : to_z w64 (of_z w64 c.value_asked.result) ≡ c.value_asked.result = grind (arith, to_z-of_z) in
    let asked : c.value_asked.result ≡ c.in-Write.v = rw c.in-Write.is at c.value_asked.ensures in
    let free = (rw c.in-Write.is at c.requires.ready).1 in
    rw c.in-Write.is (λ opening steps stand orderly. (rw (free, fits, asked) at c.in_ok-write-in-Write.ensures.stand) opening steps stand)

pub returns-in_ok-add-in-Add-clause-stand : goal.returns-in_ok-add-in-Add-clause-stand
unfolding step_if value_asked
returns-in_ok-add-in-Add-clause-stand c =
    let fits : to_z w64 (of_z w64 c.value_asked-in-Add.result) ≡ c.value_asked-in-Add.result = grind (arith, to_z-of_z) in
    let asked : c.value_asked-in-Add.result ≡ c.in-Add.d = rw c.in-Add.is at c.value_asked-in-Add.ensures in
    let free = (rw c.in-Add.is at c.requires.ready).1 in
    rw c.in-Add.is (λ opening steps stand orderly. (rw (free, fits, asked) at c.in_ok-add-in-Add.ensures.stand) opening steps stand)

pub returns-in_ok-write-in-Write-clause-locks : goal.returns-in_ok-write-in-Write-clause-locks
unfolding locks_after after_ask
returns-in_ok-write-in-Write-clause-locks c =
    let free = (rw c.in-Write.is at c.requires.ready).1 in
    rw c.in-Write.is (rw free at c.in_ok-write-in-Write.ensures.locks)

pub returns-in_ok-add-in-Add-clause-locks : goal.returns-in_ok-add-in-Add-clause-locks
unfolding locks_after after_ask
returns-in_ok-add-in-Add-clause-locks c =
    let free = (rw c.in-Add.is at c.requires.ready).1 in
    rw c.in-Add.is (rw free at c.in_ok-add-in-Add.ensures.locks)

pub returns-in-Delegate-clause-stand : goal.returns-in-Delegate-clause-stand
returns-in-Delegate-clause-stand c = rw c.in-Delegate.is (on_ok c.delegate.result (λ stands. λ opening steps stand orderly. stands opening steps stand) c.delegate.ensures.stand)

pub returns-in-Delegate-clause-locks : goal.returns-in-Delegate-clause-locks
unfolding locks_after
returns-in-Delegate-clause-locks c = rw c.in-Delegate.is c.delegate.ensures.locks

pub returns-in-Delegate-clause-memory : goal.returns-in-Delegate-clause-memory
unfolding takes_memory
returns-in-Delegate-clause-memory c = rw c.in-Delegate.is (always_err c.delegate.result refl)

pub returns-in-Depend-clause-stand : goal.returns-in-Depend-clause-stand
returns-in-Depend-clause-stand c = rw c.in-Depend.is (on_ok c.depend.result (λ stands. λ opening steps stand orderly. stands opening steps stand) c.depend.ensures.stand)

pub returns-in-Depend-clause-locks : goal.returns-in-Depend-clause-locks
unfolding locks_after
returns-in-Depend-clause-locks c = rw c.in-Depend.is (always_ok c.depend.result c.depend.ensures.locks)

pub returns-in-Depend-clause-memory : goal.returns-in-Depend-clause-memory
unfolding takes_memory
returns-in-Depend-clause-memory c = rw c.in-Depend.is (always_err c.depend.result refl)
