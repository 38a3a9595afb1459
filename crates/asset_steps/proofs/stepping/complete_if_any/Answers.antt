use Rattle.std.proofs.Common.{sym, ◌∙◌}
use Rattle.asset_steps.proofs.WorkLemmas.{work_may, complete_refused, complete_done}
use Rattle.asset_steps.proofs.stepping.complete_if_any.Goals as goal

pub complete-requires : goal.complete-requires
complete-requires c = record { runs = work_may _ c.args.t (rw c.status.ensures.row at (sym c.refusal_to_work.ensures ∙ c.in-None.is)) }

pub returns-in-Some : goal.returns-in-Some
returns-in-Some c = complete_refused _ c.args.t c.in-Some.refusal (rw c.status.ensures.row at (sym c.refusal_to_work.ensures ∙ c.in-Some.is))

pub returns-in-None : goal.returns-in-None
returns-in-None c = complete_done _ _ c.args.t (rw c.status.ensures.row at (sym c.refusal_to_work.ensures ∙ c.in-None.is)) c.complete.ensures.stand c.complete.ensures.locks
