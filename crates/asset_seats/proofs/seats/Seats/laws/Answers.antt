use Rattle.asset_seats.proofs.SeatLemmas.{one_seat, free_seat, vacant_within}
use Rattle.asset_seats.proofs.seats.Seats.laws.Goals as goal

pub returns-clause-one : goal.returns-clause-one
returns-clause-one c = one_seat c.self.inside.names.items c.self.inside.chains c.self.inside.buckets c.args.self.now c.self.view_is c.self.invariant

pub returns-clause-room : goal.returns-clause-room
returns-clause-room c = free_seat c.self.inside.names.items c.self.inside.chains c.self.inside.buckets c.args.self.now c.self.view_is c.self.invariant c.laws.ensures.sound

pub returns-clause-vacant : goal.returns-clause-vacant
returns-clause-vacant c = vacant_within c.self.inside.names.items c.self.inside.chains c.self.inside.buckets c.args.self.now c.self.view_is c.self.invariant c.laws.ensures.sound
