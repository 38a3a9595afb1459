use Rattle.std.proofs.Common.{rules}
use Rattle.asset_names.specs.Answers.{first_refusal, has_ended, missing_rule}
use Rattle.asset_names.proofs.refusals.refusal_to_open.Goals as goal

pub returns-else-has_ended : goal.returns-else-has_ended
unfolding first_refusal has_ended missing_rule
returns-else-has_ended c = search rules
