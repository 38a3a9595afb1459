use Rattle.std.proofs.Common.{sym, ◌∙◌}
use Rattle.asset_seats.proofs.SeatLemmas.{many_are}
use Rattle.asset_seats.proofs.seats.Seats.seats.Goals as goal

pub returns : goal.returns
returns c = c.keys.ensures ∙ sym (many_are c.self.inside.names.items c.self.inside.chains c.args.self.now c.self.view_is)
