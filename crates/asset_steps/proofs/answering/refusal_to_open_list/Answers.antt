use Rattle.std.proofs.Common.{◌≡◌}
use Rattle.asset_names.specs.declared.sets.ObSet.TheVariants.{Listed}
use Rattle.asset_names.specs.Endings.{status}
use Rattle.asset_names.specs.Answers.{unknown, ended, missing_in, no_object_of}
use Rattle.asset_steps.proofs.answering.refusal_to_open_list.Goals as goal

pub returns : goal.returns
unfolding unknown ended no_object_of
returns c = λ opening steps stand.
    let gives : c.status.result ≡ status steps c.args.giver.0 = c.status.ensures.shown opening steps stand in
    let missing : c.missing-missing.result ≡ missing_in opening (Listed c.args.obs.now) = c.missing-missing.ensures opening steps stand in
    rw (← gives, ← missing) c.refusal_to_open.ensures
