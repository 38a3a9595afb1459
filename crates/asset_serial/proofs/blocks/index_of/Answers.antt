use Rattle.std.proofs.Common.{◌∙◌}
use Rattle.asset_serial.proofs.BlockLemmas.{unnamed_last}
use Rattle.asset_serial.proofs.blocks.index_of.Goals as goal

pub returns-in-None : goal.returns-in-None
returns-in-None c = c.len.ensures.len ∙ unnamed_last c.args.names.now.keys c.args.t.0 c.in-None.ensures.index
