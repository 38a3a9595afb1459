use Rattle.std.proofs.Common.{arith}
use Rattle.asset_records.proofs.handing.row_to_walk.Goals as goal

pub returns-then-len-clause-fewer : goal.returns-then-len-clause-fewer
returns-then-len-clause-fewer g c = omega (arith, c.if-len.true, c.len.ensures, c.len-2.ensures)
