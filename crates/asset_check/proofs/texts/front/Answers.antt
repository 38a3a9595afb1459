use Rattle.std.proofs.Common.{sym, arith}
use Rattle.std.proofs.lemmas.List.{take_all}
use Rattle.asset_check.proofs.texts.front.Goals as goal

pub returns-else-word-gt-MOST_SHOWN : goal.returns-else-word-gt-MOST_SHOWN
returns-else-word-gt-MOST_SHOWN c = sym (take_all 40 c.args.word.now (omega arith))
