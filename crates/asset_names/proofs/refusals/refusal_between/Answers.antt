use Rattle.std.proofs.Common.{rules}
use Rattle.asset_names.specs.Answers.{first_refusal}
use Rattle.asset_names.proofs.refusals.refusal_between.Goals as goal

pub returns-then-giver-taker : goal.returns-then-giver-taker
unfolding first_refusal
returns-then-giver-taker c = search rules

pub returns-then-is_unknown : goal.returns-then-is_unknown
unfolding first_refusal
returns-then-is_unknown c = search rules
