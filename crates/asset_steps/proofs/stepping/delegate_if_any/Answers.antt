use Rattle.std.proofs.Common.{sym, ◌∙◌}
use Rattle.asset_ends.proofs.StandingLemmas.{always_err}
use Rattle.asset_steps.proofs.ShareLemmas.{between_live, delegate_refused, delegate_done, delegate_lacks}
use Rattle.asset_steps.proofs.stepping.delegate_if_any.Goals as goal

pub delegate_at-requires-clause-giver : goal.delegate_at-requires-clause-giver
delegate_at-requires-clause-giver c = rw c.find-gives.ensures.name (between_live _ _ c.args.giver c.args.taker _ (rw (c.find-gives.ensures.status, c.find-takes.ensures.status) at (sym c.refusal_between.ensures ∙ c.in-None.is))).0

pub delegate_at-requires-clause-taker : goal.delegate_at-requires-clause-taker
delegate_at-requires-clause-taker c = rw c.find-takes.ensures.name (between_live _ _ c.args.giver c.args.taker _ (rw (c.find-gives.ensures.status, c.find-takes.ensures.status) at (sym c.refusal_between.ensures ∙ c.in-None.is))).1

pub returns-in_err-delegate_at-in-None-clause-lacked : goal.returns-in_err-delegate_at-in-None-clause-lacked
returns-in_err-delegate_at-in-None-clause-lacked c = always_err c.from_residual.result (delegate_lacks _ _ c.args.giver c.args.taker c.args.obs.now c.missing_beside-missing.result c.missing_beside-missing.ensures (rw (c.find-gives.ensures.status, c.find-takes.ensures.status) at (sym c.refusal_between.ensures ∙ c.in-None.is)) c.in_err-delegate_at-in-None.ensures.unchanged)

pub returns-in-Some-clause-stepped : goal.returns-in-Some-clause-stepped
returns-in-Some-clause-stepped c = delegate_refused _ c.args.giver c.args.taker c.args.obs.now c.missing_beside-missing.result c.in-Some.refusal c.missing_beside-missing.ensures (rw (c.find-gives.ensures.status, c.find-takes.ensures.status) at (sym c.refusal_between.ensures ∙ c.in-Some.is))

pub returns-in_ok-delegate_at-in-None-clause-stepped : goal.returns-in_ok-delegate_at-in-None-clause-stepped
returns-in_ok-delegate_at-in-None-clause-stepped c =
    delegate_done _ _ c.args.giver c.args.taker c.args.obs.now c.missing_beside-missing.result c.missing_beside-missing.ensures (rw (c.find-gives.ensures.status, c.find-takes.ensures.status) at (sym c.refusal_between.ensures ∙ c.in-None.is))
    (rw (c.find-gives.ensures.name, c.find-takes.ensures.name) at c.in_ok-delegate_at-in-None.ensures.stand) (rw (c.find-gives.ensures.name, c.find-takes.ensures.name) at c.in_ok-delegate_at-in-None.ensures.locks)
