use Rattle.std.proofs.Common.{sym, ◌∙◌}
use Rattle.asset_steps.proofs.WorkLemmas.{begin_may, begin_refused, begin_done}
use Rattle.asset_steps.proofs.stepping.begin_if_any.Goals as goal

pub begin-requires : goal.begin-requires
begin-requires c = record { initiated = begin_may _ c.args.t (rw c.status.ensures.row at (sym c.refusal_to_begin.ensures ∙ c.in-None.is)) }

pub returns-in-Some : goal.returns-in-Some
returns-in-Some c = begin_refused _ c.args.t c.in-Some.refusal (rw c.status.ensures.row at (sym c.refusal_to_begin.ensures ∙ c.in-Some.is))

pub returns-in-None : goal.returns-in-None
returns-in-None c = begin_done _ _ c.args.t (rw c.status.ensures.row at (sym c.refusal_to_begin.ensures ∙ c.in-None.is)) c.begin.ensures.stand c.begin.ensures.locks
