use Rattle.asset_reasons.proofs.ReasonLemmas.{has_reason_if_bad}
use Rattle.asset_check.proofs.EndLemmas.{ends_as_run, names_first, quiet_if_finished}
use Rattle.asset_check.proofs.laws.checks_end_as_runs.Goals as goal

pub returns-clause-reason : goal.returns-clause-reason
returns-clause-reason c = has_reason_if_bad

pub returns-clause-end : goal.returns-clause-end
returns-clause-end c = ends_as_run

pub returns-clause-quiet : goal.returns-clause-quiet
returns-clause-quiet c = quiet_if_finished

pub returns-clause-first : goal.returns-clause-first
returns-clause-first c = names_first
