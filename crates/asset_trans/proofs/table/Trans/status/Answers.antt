use Rattle.std.proofs.Common.{ap}
use Rattle.asset_trans.specs.TransRows.{row_in, status_in, status_or_unknown}
use Rattle.asset_trans.proofs.table.Trans.status.Goals as goal

pub returns-in-Some : goal.returns-in-Some
unfolding row_in status_in status_or_unknown
returns-in-Some c = rw (← c.self.view_is) (ap status_or_unknown c.in-Some.ensures.value)

pub returns-in-None : goal.returns-in-None
unfolding row_in status_in status_or_unknown
returns-in-None c = rw (← c.self.view_is) (ap status_or_unknown c.in-None.ensures.value)
