use Rattle.std.proofs.Common.{ap}
use Rattle.asset_trans.specs.TransRows.{row_in, seat_in, seat_or_zero}
use Rattle.asset_trans.proofs.table.Trans.seat.Goals as goal

pub returns-in-Some : goal.returns-in-Some
unfolding row_in seat_in seat_or_zero
returns-in-Some c = rw (← c.self.view_is) (ap seat_or_zero c.in-Some.ensures.value)

pub returns-in-None : goal.returns-in-None
unfolding row_in seat_in seat_or_zero
returns-in-None c = rw (← c.self.view_is) (ap seat_or_zero c.in-None.ensures.value)
