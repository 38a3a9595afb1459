use Rattle.std.proofs.Common.{rules}
use Rattle.asset_names.specs.Answers.{first_refusal, has_ended}
use Rattle.asset_names.proofs.refusals.refusal_to_depend.Goals as goal

pub returns-then-a-b : goal.returns-then-a-b
unfolding first_refusal has_ended
returns-then-a-b c = search rules

pub returns-then-is_unknown : goal.returns-then-is_unknown
unfolding first_refusal has_ended
returns-then-is_unknown c = search rules

pub returns-then-has_ended : goal.returns-then-has_ended
unfolding first_refusal has_ended
returns-then-has_ended c = search rules
