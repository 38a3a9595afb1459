use Rattle.std.proofs.Common.{rules}
use Rattle.asset_names.specs.Answers.{first_refusal, is_unknown}
use Rattle.asset_names.proofs.refusals.refusal_to_initiate.Goals as goal

pub returns-in-Unknown : goal.returns-in-Unknown
unfolding first_refusal is_unknown
returns-in-Unknown c = search rules

pub returns-in_default : goal.returns-in_default
unfolding first_refusal is_unknown
returns-in_default c = search rules
