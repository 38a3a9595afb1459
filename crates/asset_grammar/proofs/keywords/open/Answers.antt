use Rattle.std.proofs.Common.{rules}
use Rattle.asset_grammar.specs.PermitOperands.{permit_step}
use Rattle.asset_grammar.proofs.keywords.open.Goals as goal

pub returns-in-All : goal.returns-in-All
unfolding permit_step
returns-in-All c = search rules
