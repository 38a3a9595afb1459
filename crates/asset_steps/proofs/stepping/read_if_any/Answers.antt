use Rattle.std.proofs.Common.{sym, ◌∙◌}
use Rattle.asset_steps.proofs.OperationLemmas.{found, read_refused}
use Rattle.asset_steps.proofs.stepping.read_if_any.Goals as goal

pub read_found-requires-clause-runs : goal.read_found-requires-clause-runs
read_found-requires-clause-runs c =
    rw c.find-status.ensures.name (sym c.find-status.ensures.status ∙ (found _ _ c.args.t c.args.x (sym c.refusal_to_operate.ensures ∙ c.in-None.is)).0)

pub read_found-requires-clause-exists : goal.read_found-requires-clause-exists
read_found-requires-clause-exists c =
    sym c.number-number.ensures.exists ∙ ((sym c.is_some.ensures ∙ (found _ _ c.args.t c.args.x (sym c.refusal_to_operate.ensures ∙ c.in-None.is)).1))

pub returns-in-Some-clause-stepped : goal.returns-in-Some-clause-stepped
returns-in-Some-clause-stepped c =
    read_refused _ c.args.t c.args.x c.in-Some.refusal (rw (c.is_some.ensures, c.number-number.ensures.exists, c.find-status.ensures.status) at (sym c.refusal_to_operate.ensures ∙ c.in-Some.is))

pub read_found-requires-clause-known : goal.read_found-requires-clause-known
read_found-requires-clause-known c = sym c.is_some.ensures ∙ (found _ _ c.args.t c.args.x (sym c.refusal_to_operate.ensures ∙ c.in-None.is)).1
