use Rattle.asset_locks.specs.Tied.{rows_in}
use Rattle.asset_ends.proofs.WaitLemmas.{carries_no_more}
use Rattle.asset_ends.proofs.waiting.carries.Goals as goal

pub returns-in-None : goal.returns-in-None
returns-in-None c = carries_no_more c.args.trans.now c.args.seats.now (rows_in c.args.seats.now c.args.locks.now) c.args.t c.args.x.0 c.args.op c.requires.enrolled c.requires.seated c.in-None.ensures.absent
