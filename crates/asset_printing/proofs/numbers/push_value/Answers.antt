use Rattle.std.proofs.Common.{rules}
use Rattle.asset_printing.proofs.numbers.push_value.Goals as goal

pub returns-clause-text : goal.returns-clause-text
returns-clause-text c = search rules
