use Rattle.std.proofs.Common.{◌≡◌, false, sym, ap, ◌∙◌}
use Rattle.asset_names.specs.Endings.{status}
use Rattle.asset_names.specs.Answers.{is_unknown, may_commit}
use Rattle.asset_steps.proofs.AnswerLemmas.{ended_outcome}
use Rattle.asset_steps.proofs.answering.commit_outcome_of.Goals as goal

pub returns-then-is_live-clause-outcome : goal.returns-then-is_live-clause-outcome
returns-then-is_live-clause-outcome c = λ opening steps stand known.
    rw (← c.status-status.ensures.shown opening steps stand, ← c.may_commit.ensures.shown opening steps stand) c.commit_outcome.ensures

pub returns-else-is_live-clause-outcome : goal.returns-else-is_live-clause-outcome
returns-else-is_live-clause-outcome c = λ opening steps stand known.
    let shown : c.status-status.result ≡ status steps c.args.t.0 = c.status-status.ensures.shown opening steps stand in
    rw (← shown) (c.commit_outcome-else-is_live.ensures ∙ ended_outcome c.status-status.result false (may_commit steps c.args.t.0) (ap is_unknown shown ∙ known) (sym c.if-is_live.ensures))
