use Rattle.std.proofs.Common.{ap}
use Rattle.asset_trans.specs.TransRows.{row_in, parent_in, parent_or_none}
use Rattle.asset_trans.proofs.table.Trans.parent.Goals as goal

pub returns-in-Some : goal.returns-in-Some
unfolding row_in parent_in parent_or_none
returns-in-Some c = rw (← c.self.view_is) (ap parent_or_none c.in-Some.ensures.value)

pub returns-in-None : goal.returns-in-None
unfolding row_in parent_in parent_or_none
returns-in-None c = rw (← c.self.view_is) (ap parent_or_none c.in-None.ensures.value)
