use Rattle.std.proofs.Common.{rules}
use Rattle.asset_grammar.specs.Numbers.{begins_well}
use Rattle.asset_grammar.proofs.numbers.begins_well.Goals as goal

pub returns-else-first-ne48 : goal.returns-else-first-ne48
unfolding begins_well
returns-else-first-ne48 c = search rules
