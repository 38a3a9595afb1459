use Rattle.std.proofs.Common.{sym, ◌∙◌}
use Rattle.asset_ends.proofs.StandingLemmas.{always_err}
use Rattle.asset_steps.proofs.ShareLemmas.{between_live, depend_refused, depend_cycle, depend_done, depend_lacks}
use Rattle.asset_steps.proofs.stepping.depend_if_any.Goals as goal

pub depend_at-requires-clause-source : goal.depend_at-requires-clause-source
depend_at-requires-clause-source c = rw (c.would_cycle.ensures.same, c.find-first.ensures.name) (between_live _ _ c.args.a c.args.b _ (rw (c.find-first.ensures.status, c.find-second.ensures.status) at (sym c.refusal_to_depend.ensures ∙ c.in-None.is))).0

pub depend_at-requires-clause-dependent : goal.depend_at-requires-clause-dependent
depend_at-requires-clause-dependent c = rw (c.would_cycle.ensures.same, c.find-second.ensures.name) (between_live _ _ c.args.a c.args.b _ (rw (c.find-first.ensures.status, c.find-second.ensures.status) at (sym c.refusal_to_depend.ensures ∙ c.in-None.is))).1

pub returns-in_err-depend_at-in-None-clause-lacked : goal.returns-in_err-depend_at-in-None-clause-lacked
returns-in_err-depend_at-in-None-clause-lacked c = always_err c.from_residual.result (depend_lacks _ _ c.args.kind c.args.a c.args.b (rw (c.find-first.ensures.status, c.find-second.ensures.status) at (sym c.refusal_to_depend.ensures ∙ c.in-None.is)) (sym c.would_cycle.ensures.cycle ∙ c.if-would_cycle.false) (rw c.would_cycle.ensures.same at c.in_err-depend_at-in-None.ensures.unchanged))

pub returns-in-Some-clause-stepped : goal.returns-in-Some-clause-stepped
returns-in-Some-clause-stepped c = depend_refused _ c.args.kind c.args.a c.args.b c.in-Some.refusal (rw (c.find-first.ensures.status, c.find-second.ensures.status) at (sym c.refusal_to_depend.ensures ∙ c.in-Some.is))

pub returns-then-would_cycle-clause-stepped : goal.returns-then-would_cycle-clause-stepped
returns-then-would_cycle-clause-stepped c = rw c.would_cycle.ensures.same (depend_cycle _ c.args.kind c.args.a c.args.b (rw (c.find-first.ensures.status, c.find-second.ensures.status) at (sym c.refusal_to_depend.ensures ∙ c.in-None.is)) (sym c.would_cycle.ensures.cycle ∙ c.if-would_cycle.true))

pub returns-in_ok-depend_at-in-None-clause-stepped : goal.returns-in_ok-depend_at-in-None-clause-stepped
returns-in_ok-depend_at-in-None-clause-stepped c =
    depend_done _ _ c.args.kind c.args.a c.args.b (rw (c.find-first.ensures.status, c.find-second.ensures.status) at (sym c.refusal_to_depend.ensures ∙ c.in-None.is)) (sym c.would_cycle.ensures.cycle ∙ c.if-would_cycle.false)
    (rw (c.would_cycle.ensures.same, c.find-first.ensures.name, c.find-second.ensures.name) at c.in_ok-depend_at-in-None.ensures.stand) (rw c.would_cycle.ensures.same at c.depend_at.ensures.locks)
