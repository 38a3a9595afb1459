use Rattle.std.proofs.Common.{rules}
use Rattle.asset_grammar.specs.Grammar.{step_by}
use Rattle.asset_grammar.proofs.keywords.depend.Goals as goal

pub returns : goal.returns
unfolding step_by
returns c = search rules
