use Rattle.std.proofs.Common.{sym, ◌∙◌}
use Rattle.asset_steps.proofs.WorkLemmas.{commit_refused, commit_ended}
use Rattle.asset_steps.proofs.stepping.commit_if_any.Goals as goal

pub returns-in-Some : goal.returns-in-Some
returns-in-Some c = commit_refused _ c.args.t c.in-Some.refusal (rw c.find-status.ensures.status at (sym c.refusal_to_find.ensures ∙ c.in-Some.is))

pub returns-in-None-2 : goal.returns-in-None-2
returns-in-None-2 c =
    let status = c.find-status.ensures.status in
    rw (c.commit_outcome.ensures, status) (commit_ended _ c.args.t (rw status at (sym c.refusal_to_find.ensures ∙ c.in-None-2.is)) (rw (c.is_live.ensures, status) at c.if-is_live.false))
