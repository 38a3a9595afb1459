use Rattle.std.proofs.Common.{rules}
use Rattle.asset_seats.proofs.seats.Seats.reserve.Goals as goal

pub returns-clause-room : goal.returns-clause-room
returns-clause-room c = search rules

pub returns-clause-standing : goal.returns-clause-standing
returns-clause-standing c = search rules

pub returns-clause-seats : goal.returns-clause-seats
returns-clause-seats c = search rules

pub returns-clause-more : goal.returns-clause-more
returns-clause-more c = search rules

pub returns-clause-vacant : goal.returns-clause-vacant
returns-clause-vacant c = search rules

pub returns-then-has_room-clause-room : goal.returns-then-has_room-clause-room
returns-then-has_room-clause-room c = search rules

pub returns-then-has_room-clause-standing : goal.returns-then-has_room-clause-standing
returns-then-has_room-clause-standing c = search rules

pub returns-then-has_room-clause-seats : goal.returns-then-has_room-clause-seats
returns-then-has_room-clause-seats c = search rules

pub returns-then-has_room-clause-more : goal.returns-then-has_room-clause-more
returns-then-has_room-clause-more c = search rules

pub returns-then-has_room-clause-vacant : goal.returns-then-has_room-clause-vacant
returns-then-has_room-clause-vacant c = search rules
