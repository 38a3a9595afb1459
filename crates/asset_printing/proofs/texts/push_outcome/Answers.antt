use Rattle.std.proofs.Common.{rules}
use Rattle.asset_printing.specs.Texts.{outcome_line, line_end}
use Rattle.asset_printing.proofs.texts.push_outcome.Goals as goal

pub returns-in-Wait : goal.returns-in-Wait
unfolding outcome_line line_end
returns-in-Wait c = search rules
