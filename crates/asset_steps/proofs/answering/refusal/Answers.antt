use Rattle.std.proofs.Common.{◌≡◌}
use Rattle.asset_names.specs.Endings.{status}
use Rattle.asset_names.specs.Answers.{rules_for, unknown, ended, not_running, taken, begun_before, too_late}
use Rattle.asset_steps.proofs.answering.refusal.Goals as goal

pub returns-in-Initiate-clause-refusal : goal.returns-in-Initiate-clause-refusal
unfolding rules_for taken
returns-in-Initiate-clause-refusal c = λ opening steps stand.
    let known : c.status.result ≡ status steps c.in-Initiate.t.0 = c.status.ensures.shown opening steps stand in
    rw (c.in-Initiate.is, ← known) c.refusal_to_initiate.ensures

pub returns-in-Begin-clause-refusal : goal.returns-in-Begin-clause-refusal
unfolding rules_for unknown ended begun_before
returns-in-Begin-clause-refusal c = λ opening steps stand.
    let known : c.status-in-Begin.result ≡ status steps c.in-Begin.t.0 = c.status-in-Begin.ensures.shown opening steps stand in
    rw (c.in-Begin.is, ← known) c.refusal_to_begin.ensures

pub returns-in-Complete-clause-refusal : goal.returns-in-Complete-clause-refusal
unfolding rules_for unknown ended not_running
returns-in-Complete-clause-refusal c = λ opening steps stand.
    let known : c.status-in-Complete.result ≡ status steps c.in-Complete.t.0 = c.status-in-Complete.ensures.shown opening steps stand in
    rw (c.in-Complete.is, ← known) c.refusal_to_work.ensures

pub returns-in-Commit-clause-refusal : goal.returns-in-Commit-clause-refusal
unfolding rules_for unknown
returns-in-Commit-clause-refusal c = λ opening steps stand.
    let known : c.status-in-Commit.result ≡ status steps c.in-Commit.t.0 = c.status-in-Commit.ensures.shown opening steps stand in
    rw (c.in-Commit.is, ← known) c.refusal_to_find.ensures

pub returns-in-WaitFor-clause-refusal : goal.returns-in-WaitFor-clause-refusal
unfolding rules_for unknown
returns-in-WaitFor-clause-refusal c = λ opening steps stand.
    let known : c.status-in-WaitFor.result ≡ status steps c.in-WaitFor.t.0 = c.status-in-WaitFor.ensures.shown opening steps stand in
    rw (c.in-WaitFor.is, ← known) c.refusal_to_find-in-WaitFor.ensures

pub returns-in-Abort-clause-refusal : goal.returns-in-Abort-clause-refusal
unfolding rules_for unknown too_late
returns-in-Abort-clause-refusal c = λ opening steps stand.
    let known : c.status-in-Abort.result ≡ status steps c.in-Abort.t.0 = c.status-in-Abort.ensures.shown opening steps stand in
    rw (c.in-Abort.is, ← known) c.refusal_to_abort.ensures

pub returns-in-Read-clause-refusal : goal.returns-in-Read-clause-refusal
unfolding rules_for
returns-in-Read-clause-refusal c = λ opening steps stand. rw c.in-Read.is (c.refusal_to_use.ensures opening steps stand)

pub returns-in-Write-clause-refusal : goal.returns-in-Write-clause-refusal
unfolding rules_for
returns-in-Write-clause-refusal c = λ opening steps stand. rw c.in-Write.is (c.refusal_to_use-in-Write.ensures opening steps stand)

pub returns-in-Add-clause-refusal : goal.returns-in-Add-clause-refusal
unfolding rules_for
returns-in-Add-clause-refusal c = λ opening steps stand. rw c.in-Add.is (c.refusal_to_use-in-Add.ensures opening steps stand)

pub returns-in-Permit-clause-refusal : goal.returns-in-Permit-clause-refusal
unfolding rules_for
returns-in-Permit-clause-refusal c = λ opening steps stand. rw c.in-Permit.is (c.refusal_to_share.ensures opening steps stand)

pub returns-in-PermitAny-clause-refusal : goal.returns-in-PermitAny-clause-refusal
unfolding rules_for
returns-in-PermitAny-clause-refusal c = λ opening steps stand. rw c.in-PermitAny.is (c.refusal_to_open_list.ensures opening steps stand)

pub returns-in-Delegate-clause-refusal : goal.returns-in-Delegate-clause-refusal
unfolding rules_for
returns-in-Delegate-clause-refusal c = λ opening steps stand. rw c.in-Delegate.is (c.refusal_to_share-in-Delegate.ensures opening steps stand)

pub returns-in-Depend-clause-refusal : goal.returns-in-Depend-clause-refusal
unfolding rules_for
returns-in-Depend-clause-refusal c = λ opening steps stand. rw c.in-Depend.is (c.refusal_of_dependency.ensures.refusal opening steps stand)
