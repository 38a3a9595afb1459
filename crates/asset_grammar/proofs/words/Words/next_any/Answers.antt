use Rattle.std.proofs.Common.{rules}
use Rattle.asset_grammar.specs.Words.{taken}
use Rattle.asset_grammar.specs.PermitOperands.{any_of}
use Rattle.asset_grammar.proofs.words.Words.next_any.Goals as goal

pub returns-then-eq : goal.returns-then-eq
unfolding taken any_of
returns-then-eq c = search rules
