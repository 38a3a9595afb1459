use Rattle.std.proofs.Common.{ap, ◌∙◌}
use Rattle.std.specs.Prelude.{Err}
use Rattle.asset_standing.proofs.StepLemmas.{answered_step, full_step}
use Rattle.asset_standing.proofs.steps.ask.Goals as goal

pub returns-in-Ok-clause-stepped : goal.returns-in-Ok-clause-stepped
returns-in-Ok-clause-stepped c = answered_step c.args.core.now c.step_lent.new.self c.args.step.now c.step_lent.result c.in-Ok.field-0 c.step_lent.ensures c.in-Ok.is

pub returns-in-Err-Full-clause-stepped : goal.returns-in-Err-Full-clause-stepped
returns-in-Err-Full-clause-stepped c = full_step c.args.core.now c.step_lent.new.self c.args.step.now c.step_lent.result c.step_lent.ensures (c.in-Err-Full.is ∙ ap Err c.in-Err-Full.field-0-is)
