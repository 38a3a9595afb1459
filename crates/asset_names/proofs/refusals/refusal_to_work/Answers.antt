use Rattle.std.proofs.Common.{rules}
use Rattle.asset_names.specs.Answers.{first_refusal, is_unknown, has_ended, is_running}
use Rattle.asset_names.proofs.refusals.refusal_to_work.Goals as goal

pub returns-in-Unknown : goal.returns-in-Unknown
unfolding first_refusal is_unknown has_ended is_running
returns-in-Unknown c = search rules

pub returns-in-Running : goal.returns-in-Running
unfolding first_refusal is_unknown has_ended is_running
returns-in-Running c = search rules

pub returns-in-Committed : goal.returns-in-Committed
unfolding first_refusal is_unknown has_ended is_running
returns-in-Committed c = search rules

pub returns-in-Initiated : goal.returns-in-Initiated
unfolding first_refusal is_unknown has_ended is_running
returns-in-Initiated c = search rules
