use Rattle.std.proofs.Common.{◌≡◌, [], ◌∙◌, refl}
use Rattle.asset_names.specs.Endings.{status}
use Rattle.asset_names.specs.Answers.{unrefused, rules_for, unknown}
use Rattle.asset_names.proofs.LegalLemmas.{first_none}
use Rattle.asset_ends.specs.Updates.{step_of}
use Rattle.asset_steps.proofs.AnswerLemmas.{read_unrefused, read_answered}
use Rattle.asset_steps.proofs.answering.unrefused.Goals as goal

pub returns-in-Initiate-clause-outcome : goal.returns-in-Initiate-clause-outcome
unfolding unrefused
returns-in-Initiate-clause-outcome c = λ opening steps stand first. rw c.in-Initiate.is refl

pub returns-in-Begin-clause-outcome : goal.returns-in-Begin-clause-outcome
unfolding unrefused
returns-in-Begin-clause-outcome c = λ opening steps stand first. rw c.in-Begin.is refl

pub returns-in-Complete-clause-outcome : goal.returns-in-Complete-clause-outcome
unfolding unrefused
returns-in-Complete-clause-outcome c = λ opening steps stand first. rw c.in-Complete.is refl

pub returns-in-Abort-clause-outcome : goal.returns-in-Abort-clause-outcome
unfolding unrefused
returns-in-Abort-clause-outcome c = λ opening steps stand first. rw c.in-Abort.is refl

pub returns-in-Read-clause-outcome : goal.returns-in-Read-clause-outcome
returns-in-Read-clause-outcome c = λ opening steps stand first.
    rw c.in-Read.is (c.read_outcome.ensures.outcome ∙ read_answered opening steps c.args.tables.now c.in-Read.t c.in-Read.x stand (read_unrefused opening steps c.in-Read.t c.in-Read.x (rw c.in-Read.is at first)).1)

pub returns-in-Write-clause-outcome : goal.returns-in-Write-clause-outcome
unfolding step_of
returns-in-Write-clause-outcome c = λ opening steps stand first. rw c.in-Write.is (c.update_outcome.ensures.outcome c.in-Write.v opening steps stand)

pub returns-in-Add-clause-outcome : goal.returns-in-Add-clause-outcome
unfolding step_of
returns-in-Add-clause-outcome c = λ opening steps stand first. rw c.in-Add.is (c.update_outcome-in-Add.ensures.outcome c.in-Add.d opening steps stand)

pub returns-in-Commit-clause-outcome : goal.returns-in-Commit-clause-outcome
unfolding unrefused rules_for unknown
returns-in-Commit-clause-outcome c = λ opening steps stand first.
    rw c.in-Commit.is (c.commit_outcome_of.ensures.outcome opening steps stand (first_none (unknown steps c.in-Commit.t) [] (rw c.in-Commit.is at first)).0)

pub returns-in-WaitFor-clause-outcome : goal.returns-in-WaitFor-clause-outcome
unfolding unrefused
returns-in-WaitFor-clause-outcome c = λ opening steps stand first.
    let known : c.status.result ≡ status steps c.in-WaitFor.t.0 = c.status.ensures.shown opening steps stand in
    rw (c.in-WaitFor.is, ← known) c.wait_outcome.ensures

pub returns-in-PermitAny-clause-outcome : goal.returns-in-PermitAny-clause-outcome
unfolding unrefused
returns-in-PermitAny-clause-outcome c = λ opening steps stand first. rw c.in-PermitAny.is refl

pub returns-in-Permit-clause-outcome : goal.returns-in-Permit-clause-outcome
unfolding unrefused
returns-in-Permit-clause-outcome c = λ opening steps stand first. rw c.in-Permit.is refl

pub returns-in-Delegate-clause-outcome : goal.returns-in-Delegate-clause-outcome
unfolding unrefused
returns-in-Delegate-clause-outcome c = λ opening steps stand first. rw c.in-Delegate.is refl

pub returns-in-Depend-clause-outcome : goal.returns-in-Depend-clause-outcome
unfolding unrefused
returns-in-Depend-clause-outcome c = λ opening steps stand first. rw c.in-Depend.is refl
