use Rattle.std.proofs.Common.{rules}
use Rattle.asset_grammar.specs.Words.{words}
use Rattle.asset_reasons.specs.Mistakes.{second_word}
use Rattle.asset_reasons.proofs.words.second_word.Goals as goal

pub returns-in-Some-next : goal.returns-in-Some-next
unfolding second_word words
returns-in-Some-next c = search rules
