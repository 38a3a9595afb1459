use Rattle.asset_core.proofs.facility.Core.value.Goals as goal

pub returns : goal.returns
returns c = rw (← c.self.view_is) (c.value.ensures.shown _ _ c.self.invariant.stand)
