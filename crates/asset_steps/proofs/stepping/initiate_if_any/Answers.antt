use Rattle.std.proofs.Common.{sym, ◌∙◌}
use Rattle.asset_ends.proofs.StandingLemmas.{always_err}
use Rattle.asset_steps.proofs.WorkLemmas.{initiate_may, initiate_refused, initiate_done, initiate_lacks}
use Rattle.asset_steps.proofs.stepping.initiate_if_any.Goals as goal

pub initiate-requires : goal.initiate-requires
initiate-requires c = record { new = initiate_may _ c.args.t (rw c.status.ensures.row at (sym c.refusal_to_initiate.ensures ∙ c.in-None.is)) }

pub returns-in_err-initiate-in-None-clause-lacked : goal.returns-in_err-initiate-in-None-clause-lacked
returns-in_err-initiate-in-None-clause-lacked c = always_err c.from_residual.result (initiate_lacks _ _ c.args.t c.args.parent (rw c.status.ensures.row at (sym c.refusal_to_initiate.ensures ∙ c.in-None.is)) c.in_err-initiate-in-None.ensures.unchanged)

pub returns-in-Some-clause-stepped : goal.returns-in-Some-clause-stepped
returns-in-Some-clause-stepped c = initiate_refused _ c.args.t c.args.parent c.in-Some.refusal (rw c.status.ensures.row at (sym c.refusal_to_initiate.ensures ∙ c.in-Some.is))

pub returns-in_ok-initiate-in-None-clause-stepped : goal.returns-in_ok-initiate-in-None-clause-stepped
returns-in_ok-initiate-in-None-clause-stepped c =
    initiate_done _ _ c.args.t c.args.parent (rw c.status.ensures.row at (sym c.refusal_to_initiate.ensures ∙ c.in-None.is)) c.in_ok-initiate-in-None.ensures.stand c.in_ok-initiate-in-None.ensures.locks
