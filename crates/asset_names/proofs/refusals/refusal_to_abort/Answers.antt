use Rattle.std.proofs.Common.{rules}
use Rattle.asset_names.specs.Answers.{first_refusal, is_unknown, is_committed}
use Rattle.asset_names.proofs.refusals.refusal_to_abort.Goals as goal

pub returns-in-Unknown : goal.returns-in-Unknown
unfolding first_refusal is_unknown is_committed
returns-in-Unknown c = search rules

pub returns-in-Committed : goal.returns-in-Committed
unfolding first_refusal is_unknown is_committed
returns-in-Committed c = search rules

pub returns-in_default : goal.returns-in_default
unfolding first_refusal is_unknown is_committed
returns-in_default c = search rules
