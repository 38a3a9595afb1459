use Rattle.std.proofs.Common.{sym, ◌∙◌}
use Rattle.asset_steps.proofs.WorkLemmas.{wait_refused, wait_done}
use Rattle.asset_steps.proofs.stepping.wait_if_any.Goals as goal

pub returns-in-Some : goal.returns-in-Some
returns-in-Some c = wait_refused _ c.args.t c.in-Some.refusal (rw c.status-status.ensures.row at (sym c.refusal_to_find.ensures ∙ c.in-Some.is))

pub returns-in-None : goal.returns-in-None
returns-in-None c = rw (c.wait_outcome.ensures, c.status-status.ensures.row) (wait_done _ c.args.t (rw c.status-status.ensures.row at (sym c.refusal_to_find.ensures ∙ c.in-None.is)))
