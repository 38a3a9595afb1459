use Rattle.asset_trans.specs.TransRows.{status_or_unknown, seat_or_zero}
use Rattle.asset_ends.proofs.EnrolledLemmas.{status_of_row, seat_of_row}
use Rattle.asset_ends.proofs.tables.Tables.find.Goals as goal

pub returns-in-Some-clause-status : goal.returns-in-Some-clause-status
unfolding status_or_unknown
returns-in-Some-clause-status c = rw (← c.self.view_is) (status_of_row c.self.inside.parts.trans c.args.t.0 _ c.in-Some.ensures)

pub returns-in-Some-clause-seat : goal.returns-in-Some-clause-seat
unfolding seat_or_zero
returns-in-Some-clause-seat c = rw (← c.self.view_is) (seat_of_row c.self.inside.parts.trans c.args.t.0 _ c.in-Some.ensures)

pub returns-in-None-clause-status : goal.returns-in-None-clause-status
unfolding status_or_unknown
returns-in-None-clause-status c = rw (← c.self.view_is) (status_of_row c.self.inside.parts.trans c.args.t.0 _ c.in-None.ensures)

pub returns-in-None-clause-seat : goal.returns-in-None-clause-seat
unfolding seat_or_zero
returns-in-None-clause-seat c = rw (← c.self.view_is) (seat_of_row c.self.inside.parts.trans c.args.t.0 _ c.in-None.ensures)
