use Rattle.std.proofs.lemmas.Bool.{le-leb}
use Rattle.asset_names.specs.Room.{fits}
use Rattle.asset_core.proofs.facility.Core.history.Goals as goal

pub returns-clause-fits : goal.returns-clause-fits
unfolding fits
returns-clause-fits c = rw (← c.self.view_is) (le-leb _ _ c.self.invariant.fitting)
