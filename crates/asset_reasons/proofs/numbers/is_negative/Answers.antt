use Rattle.std.proofs.Common.{rules}
use Rattle.asset_grammar.specs.Numbers.{negative_value}
use Rattle.asset_reasons.proofs.numbers.is_negative.Goals as goal

pub returns-then-number-gt0 : goal.returns-then-number-gt0
unfolding negative_value
returns-then-number-gt0 c = search rules
