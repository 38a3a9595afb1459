use Rattle.std.proofs.Common.{arith}
use Rattle.std.proofs.lemmas.Grind.{common_steps}
use Rattle.asset_printing.specs.Texts.{bad_line, line_end}
use Rattle.asset_printing.proofs.texts.push_bad_line.Goals as goal

pub returns : goal.returns
unfolding bad_line line_end
returns c = grind (arith, common_steps)
