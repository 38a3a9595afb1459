use Rattle.asset_deps.proofs.SeatLemmas.{seat_named, some_unless}
use Rattle.asset_deps.proofs.finding.sitter_in.Goals as goal

pub unwrap-at-requires : goal.unwrap-at-requires
unwrap-at-requires c = let found = seat_named c.args.seats.now c.args.t.0 c.requires in some_unless c.seat_of.result c.seat_of.ensures.absent (λ absent. absent found.0 found.1)
