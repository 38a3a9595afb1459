use Rattle.asset_grammar.proofs.FirstLineLemmas.{empty_is_blank}
use Rattle.asset_grammar.proofs.grammar.is_blank.Goals as goal

pub returns-in-None : goal.returns-in-None
returns-in-None c = empty_is_blank c.args.text.now c.in-None.ensures.cases
