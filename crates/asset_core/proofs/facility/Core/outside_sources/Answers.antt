use Rattle.asset_ends.proofs.WaitLemmas.{if_ok_as}
use Rattle.asset_core.proofs.facility.Core.outside_sources.Goals as goal

pub returns-clause-named : goal.returns-clause-named
returns-clause-named c = rw (← c.self.view_is) (if_ok_as c.outside_sources.result (λ found shown. shown _ _ c.self.invariant.stand) c.outside_sources.ensures.shown)
