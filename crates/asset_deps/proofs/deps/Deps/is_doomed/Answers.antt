use Rattle.std.proofs.Common.{sym}
use Rattle.asset_deps.proofs.SeatLemmas.{nobody_marked}
use Rattle.asset_deps.proofs.deps.Deps.is_doomed.Goals as goal

pub returns-in_default : goal.returns-in_default
returns-in_default c = let inside = c.self.inside in rw (← c.self.view_is) (sym (nobody_marked inside.seats inside.table.marked.nodes c.args.u c.self.invariant.taken c.in_default.ensures.absent))
