use Rattle.asset_core.proofs.facility.Core.holds.Goals as goal

pub returns : goal.returns
returns c = rw (← c.self.view_is) (c.holds.ensures.shown _ _ c.self.invariant.stand)
