use Rattle.asset_ends.proofs.WaitLemmas.{if_ok_as}
use Rattle.asset_core.proofs.facility.Core.unfinished.Goals as goal

pub returns-clause-named : goal.returns-clause-named
returns-clause-named c = rw (← c.self.view_is) (if_ok_as c.unfinished.result (λ found shown. shown _ _ c.self.invariant.stand) c.unfinished.ensures.shown)
