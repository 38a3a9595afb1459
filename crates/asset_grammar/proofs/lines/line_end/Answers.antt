use Rattle.std.proofs.Common.{sym}
use Rattle.asset_grammar.proofs.FirstLineLemmas.{no_feed_no_tail}
use Rattle.asset_grammar.proofs.lines.line_end.Goals as goal

pub returns-in-None : goal.returns-in-None
returns-in-None c = no_feed_no_tail c.args.text.now (sym c.in-None.ensures)
