use Rattle.std.proofs.Common.{sym, ◌∙◌}
use Rattle.asset_ends.proofs.StandingLemmas.{always_err}
use Rattle.asset_steps.proofs.ShareLemmas.{giver_live, open_refused, open_done, open_lacks}
use Rattle.asset_steps.proofs.stepping.open_if_any.Goals as goal

pub permit_any_at-requires-clause-giver : goal.permit_any_at-requires-clause-giver
permit_any_at-requires-clause-giver c = rw c.find-gives.ensures.name (giver_live _ c.args.giver _ (rw c.find-gives.ensures.status at (sym c.refusal_to_open.ensures ∙ c.in-None.is)))

pub returns-in_err-permit_any_at-in-None-clause-lacked : goal.returns-in_err-permit_any_at-in-None-clause-lacked
returns-in_err-permit_any_at-in-None-clause-lacked c = always_err c.from_residual.result (open_lacks _ _ c.args.giver c.args.obs.now c.args.ops c.missing-missing.result c.missing-missing.ensures (rw c.find-gives.ensures.status at (sym c.refusal_to_open.ensures ∙ c.in-None.is)) c.in_err-permit_any_at-in-None.ensures.unchanged)

pub returns-in-Some-clause-stepped : goal.returns-in-Some-clause-stepped
returns-in-Some-clause-stepped c = open_refused _ c.args.giver c.args.obs.now c.args.ops c.missing-missing.result c.in-Some.refusal c.missing-missing.ensures (rw c.find-gives.ensures.status at (sym c.refusal_to_open.ensures ∙ c.in-Some.is))

pub returns-in_ok-permit_any_at-in-None-clause-stepped : goal.returns-in_ok-permit_any_at-in-None-clause-stepped
returns-in_ok-permit_any_at-in-None-clause-stepped c =
    open_done _ _ c.args.giver c.args.obs.now c.args.ops c.missing-missing.result c.missing-missing.ensures (rw c.find-gives.ensures.status at (sym c.refusal_to_open.ensures ∙ c.in-None.is))
    (rw c.find-gives.ensures.name at c.in_ok-permit_any_at-in-None.ensures.stand) c.permit_any_at.ensures.locks
