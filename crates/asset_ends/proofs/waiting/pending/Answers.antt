use Rattle.asset_locks.specs.Tied.{rows_in}
use Rattle.asset_ends.proofs.EnrolledLemmas.{live_enrolled}
use Rattle.asset_ends.proofs.WaitLemmas.{no_request}
use Rattle.asset_ends.proofs.waiting.pending.Goals as goal

pub pending-requires-clause-enrolled : goal.pending-requires-clause-enrolled
pending-requires-clause-enrolled c =
    let one = c.in-Some.one in
    live_enrolled c.args.trans.now (rows_in c.args.seats.now c.args.locks.now) one.t.0 c.requires.enrolled (c.requires.seated.live one.at one.t c.in-Some.ensures.sits.0)

pub returns-in-None : goal.returns-in-None
returns-in-None c = no_request c.args.trans.now c.args.seats.now (rows_in c.args.seats.now c.args.locks.now) c.args.t c.requires.enrolled c.requires.seated c.in-None.ensures.absent
