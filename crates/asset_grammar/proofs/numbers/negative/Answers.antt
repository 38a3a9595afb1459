use Rattle.std.proofs.Common.{rules}
use Rattle.asset_grammar.specs.Numbers.{negative_value}
use Rattle.asset_grammar.proofs.numbers.negative.Goals as goal

pub returns : goal.returns
unfolding negative_value
returns c = search rules
