use Rattle.std.proofs.Common.{◌≡◌, ◌∙◌, ap, is_some}
use Rattle.asset_names.specs.Endings.{status}
use Rattle.asset_names.specs.Operations.{exists}
use Rattle.asset_names.specs.Answers.{unknown, ended, not_running, no_object}
use Rattle.asset_ends.proofs.ShowsLemmas.{exists_shown}
use Rattle.asset_steps.proofs.answering.refusal_to_use.Goals as goal

pub returns : goal.returns
unfolding unknown ended not_running no_object
returns c = λ opening steps stand.
    let known : c.status.result ≡ status steps c.args.t.0 = c.status.ensures.shown opening steps stand in
    let there : c.is_some-exists.result ≡ exists opening c.args.x.0 = c.is_some-exists.ensures ∙ ap is_some c.value.ensures.cell ∙ exists_shown opening steps _ _ _ _ _ c.args.x.0 stand in
    rw (← known, ← there) c.refusal_to_operate.ensures
