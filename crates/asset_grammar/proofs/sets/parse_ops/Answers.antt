use Rattle.std.proofs.Common.{rules}
use Rattle.asset_grammar.specs.Sets.{ops_of}
use Rattle.asset_grammar.proofs.sets.parse_ops.Goals as goal

pub returns-then-eq-3 : goal.returns-then-eq-3
unfolding ops_of
returns-then-eq-3 c = search rules
