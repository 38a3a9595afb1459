use Rattle.asset_locks.proofs.TableLemmas.{nobody_seated}
use Rattle.asset_locks.proofs.seating.sitter_in.Goals as goal

pub unreachable-requires : goal.unreachable-requires
unreachable-requires c =
    let table = c.args.table.now in
    nobody_seated c.args.seats.now table.pending table.order table.store c.requires.tied c.laws.ensures.order c.args.t c.in_default.ensures.absent c.requires.enrolled
