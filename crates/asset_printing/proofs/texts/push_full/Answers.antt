use Rattle.std.proofs.Common.{rules}
use Rattle.asset_printing.specs.Texts.{full_line, line_end}
use Rattle.asset_printing.proofs.texts.push_full.Goals as goal

pub returns : goal.returns
unfolding full_line line_end
returns c = search rules
