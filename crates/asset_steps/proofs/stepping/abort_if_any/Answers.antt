use Rattle.std.proofs.Common.{sym, ◌∙◌}
use Rattle.asset_steps.proofs.WorkLemmas.{abort_refused, abort_done, abort_ended}
use Rattle.asset_steps.proofs.stepping.abort_if_any.Goals as goal

pub returns-in-Some : goal.returns-in-Some
returns-in-Some c = abort_refused _ c.args.t c.in-Some.refusal (rw c.find-status.ensures.status at (sym c.refusal_to_abort.ensures ∙ c.in-Some.is))

pub returns-then-is_live : goal.returns-then-is_live
returns-then-is_live c =
    let status = c.find-status.ensures.status in
    abort_done _ _ c.args.t (rw status at (sym c.refusal_to_abort.ensures ∙ c.in-None.is)) (rw (c.is_live.ensures, status) at c.if-is_live.true) (rw c.find-status.ensures.name at c.abort_at.ensures.stand) (rw c.find-status.ensures.name at c.abort_at.ensures.locks)

pub returns-else-is_live : goal.returns-else-is_live
returns-else-is_live c =
    let status = c.find-status.ensures.status in
    abort_ended _ c.args.t (rw status at (sym c.refusal_to_abort.ensures ∙ c.in-None.is)) (rw (c.is_live.ensures, status) at c.if-is_live.false)
