use Rattle.std.proofs.Common.{◌≡◌}
use Rattle.asset_names.specs.Endings.{status}
use Rattle.asset_names.specs.Answers.{unknown, ended, one_name, missing_in, no_object_of}
use Rattle.asset_steps.proofs.answering.refusal_to_share.Goals as goal

pub returns : goal.returns
unfolding unknown ended one_name no_object_of
returns c = λ opening steps stand.
    let gives : c.status.result ≡ status steps c.args.giver.0 = c.status.ensures.shown opening steps stand in
    let takes : c.status-2.result ≡ status steps c.args.taker.0 = c.status-2.ensures.shown opening steps stand in
    let missing : c.missing-missing.result ≡ missing_in opening c.args.obs.now = c.missing-missing.ensures opening steps stand in
    rw (← gives, ← takes, ← missing) c.refusal_between.ensures
