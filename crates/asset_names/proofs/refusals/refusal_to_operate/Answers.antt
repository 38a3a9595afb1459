use Rattle.std.proofs.Common.{rules}
use Rattle.asset_names.specs.Answers.{first_refusal, is_unknown, has_ended, is_running}
use Rattle.asset_names.proofs.refusals.refusal_to_operate.Goals as goal

pub returns-in-Some : goal.returns-in-Some
unfolding first_refusal is_unknown has_ended is_running
returns-in-Some c = search rules

pub returns-in-None : goal.returns-in-None
unfolding first_refusal is_unknown has_ended is_running
returns-in-None c = search rules
