use Rattle.asset_grammar.proofs.FirstLineLemmas.{tail_at_end}
use Rattle.asset_grammar.proofs.words.Words.tail.Goals as goal

pub returns : goal.returns
returns c = rw (← c.self.view_is) (tail_at_end c.self.inside.ended c.self.inside.rest.now (rw (← c.self.view_is) at c.requires))
