use Rattle.std.proofs.Common.{refl, arith}
use Rattle.asset_trans.proofs.TransRowLemmas.{known_there, live_counts, ended_counts, ended_known}
use Rattle.asset_trans.proofs.table.Trans.end.Goals as goal

pub change-requires-clause-there : goal.change-requires-clause-there
change-requires-clause-there c = known_there c.args.t.0 c.args.self.now _ refl (live_counts _ c.requires.live).1

pub change-requires-clause-owed_less : goal.change-requires-clause-owed_less
change-requires-clause-owed_less c = rw (c.ended_as.ensures, (ended_counts c.args.how).0) (omega arith)

pub change-requires-clause-live_less : goal.change-requires-clause-live_less
change-requires-clause-live_less c = rw (c.ended_as.ensures, (ended_counts c.args.how).1) (omega arith)

pub change-requires-clause-known : goal.change-requires-clause-known
change-requires-clause-known c = rw c.ended_as.ensures (ended_known c.args.how)
