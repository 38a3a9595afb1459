use Rattle.std.proofs.Common.{rules}
use Rattle.asset_grammar.specs.Sets.{set_of, listed}
use Rattle.asset_reasons.proofs.operands.is_set.Goals as goal

pub returns-then-eq : goal.returns-then-eq
unfolding set_of listed
returns-then-eq c = search rules
