use Rattle.std.proofs.Common.{rules}
use Rattle.asset_reasons.specs.Mistakes.{reason_of, spelled}
use Rattle.asset_reasons.proofs.words.reason_of.Goals as goal

pub returns-then-line-gt-LONGEST_LINE : goal.returns-then-line-gt-LONGEST_LINE
unfolding reason_of spelled
returns-then-line-gt-LONGEST_LINE c = search rules
