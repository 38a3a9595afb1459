use Rattle.std.proofs.Common.{ℕ, Option, is_some, sym, ap, ◌∙◌}
use Rattle.asset_seats.proofs.SeatLemmas.{room_is, vacant_past}
use Rattle.asset_seats.proofs.seats.Seats.has_room.Goals as goal

pub returns-clause-free : goal.returns-clause-free
returns-clause-free c = c.is_some.ensures ∙ ap (λ (o : Option ℕ). is_some o) c.last.ensures ∙ sym (room_is c.self.inside.names.items c.self.inside.chains c.args.self.now c.self.view_is)

pub returns-clause-vacant : goal.returns-clause-vacant
returns-clause-vacant c = vacant_past c.self.inside.names.items c.self.inside.chains c.args.self.now c.self.view_is
