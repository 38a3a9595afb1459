use Rattle.std.proofs.Common.{sym, ◌∙◌}
use Rattle.asset_steps.proofs.OperationLemmas.{found, update_refused}
use Rattle.asset_steps.proofs.stepping.update_if_any.Goals as goal

pub update_found-requires-clause-runs : goal.update_found-requires-clause-runs
update_found-requires-clause-runs c =
    rw c.find-status.ensures.name (sym c.find-status.ensures.status ∙ (found _ _ c.args.t c.args.x (sym c.refusal_to_operate.ensures ∙ c.in-None.is)).0)

pub update_found-requires-clause-exists : goal.update_found-requires-clause-exists
update_found-requires-clause-exists c =
    sym c.number-number.ensures.exists ∙ ((sym c.is_some.ensures ∙ (found _ _ c.args.t c.args.x (sym c.refusal_to_operate.ensures ∙ c.in-None.is)).1))

pub returns-in-Some-clause-stepped : goal.returns-in-Some-clause-stepped
returns-in-Some-clause-stepped c =
    update_refused _ c.args.t c.args.x c.args.update c.args.v c.in-Some.refusal (rw (c.is_some.ensures, c.number-number.ensures.exists, c.find-status.ensures.status) at (sym c.refusal_to_operate.ensures ∙ c.in-Some.is))

pub update_found-requires-clause-known : goal.update_found-requires-clause-known
update_found-requires-clause-known c = sym c.is_some.ensures ∙ (found _ _ c.args.t c.args.x (sym c.refusal_to_operate.ensures ∙ c.in-None.is)).1
