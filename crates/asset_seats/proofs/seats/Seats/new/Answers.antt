use Rattle.asset_seats.proofs.SeatLemmas.{seated_nothing, nobody, nobody_at}
use Rattle.asset_seats.proofs.seats.Seats.new.Goals as goal

pub invariant_of-result : goal.invariant_of-result
invariant_of-result c = seated_nothing c.new.result.items c.new-2.result c.new-2.ensures.homes

pub returns-clause-seats : goal.returns-clause-seats
returns-clause-seats c = nobody_at c.new.result.items c.new-2.result c.new-2.ensures.homes

pub returns-clause-slots : goal.returns-clause-slots
returns-clause-slots c = nobody c.new.result.items c.new-2.result c.new-2.ensures.homes
