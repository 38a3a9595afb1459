use Rattle.asset_trans.specs.TransRows.{row_in}
use Rattle.asset_trans.proofs.table.Trans.find.Goals as goal

pub returns-in-Some : goal.returns-in-Some
unfolding row_in
returns-in-Some c = rw (← c.self.view_is) c.in-Some.ensures.value

pub returns-in-None : goal.returns-in-None
unfolding row_in
returns-in-None c = rw (← c.self.view_is) c.in-None.ensures.value
