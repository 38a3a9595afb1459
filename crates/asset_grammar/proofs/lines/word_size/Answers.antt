use Rattle.std.proofs.Common.{sym}
use Rattle.asset_grammar.proofs.FirstLineLemmas.{word_at_stop}
use Rattle.asset_grammar.proofs.lines.word_size.Goals as goal

pub returns-in-Some : goal.returns-in-Some
returns-in-Some c = word_at_stop _ _ (sym c.in-Some.ensures)
