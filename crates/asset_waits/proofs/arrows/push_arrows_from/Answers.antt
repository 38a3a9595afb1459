use Rattle.asset_waits.specs.Deadlocks.{arrows_from}
use Rattle.asset_waits.proofs.arrows.push_arrows_from.Goals as goal

pub returns-in-Ok-clause-arrows : goal.returns-in-Ok-clause-arrows
unfolding arrows_from
returns-in-Ok-clause-arrows c = rw (c.deref.ensures.value, c.in_ok-waited.ensures.named, c.as_slice.ensures.keys) at c.in-Ok.ensures
