use Rattle.std.proofs.Common.{arith}
use Rattle.asset_core.proofs.facility.Core.open.Goals as goal

pub returns-in-Ok-over-clause-may : goal.returns-in-Ok-over-clause-may
returns-in-Ok-over-clause-may c = ((omega arith, omega arith), c.in-Ok.ensures.different)

pub returns-in-Err-clause-fault : goal.returns-in-Err-clause-fault
returns-in-Err-clause-fault c = ((omega arith, omega arith), c.in-Ok.ensures.different)
