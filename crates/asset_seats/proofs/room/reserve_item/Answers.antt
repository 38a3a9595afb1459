use Rattle.asset_chains.proofs.CrossedLemmas.{grown_same}
use Rattle.asset_seats.proofs.room.reserve_item.Goals as goal

pub returns-in-Ok-clause-grown : goal.returns-in-Ok-clause-grown
returns-in-Ok-clause-grown g c = grown_same c.args.items.now c.reserve.new.self c.in-Ok.ensures.slots c.in-Ok.ensures.rows c.in-Ok.ensures.columns

pub returns-in-Err-clause-grown : goal.returns-in-Err-clause-grown
returns-in-Err-clause-grown g c = grown_same c.args.items.now c.reserve.new.self c.in-Err.ensures.slots c.in-Err.ensures.rows c.in-Err.ensures.columns

pub returns-in-Err-clause-room : goal.returns-in-Err-clause-room
returns-in-Err-clause-room g c = tt
