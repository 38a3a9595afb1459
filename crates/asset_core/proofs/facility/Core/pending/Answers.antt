use Rattle.std.proofs.Common.{◌∙◌}
use Rattle.asset_core.specs.Tables.{pending_in}
use Rattle.asset_core.proofs.PendingLemmas.{pending_found}
use Rattle.asset_core.proofs.facility.Core.pending.Goals as goal

pub returns : goal.returns
unfolding pending_in
returns c = rw (← c.self.view_is) (c.pending.ensures ∙ pending_found c.self.inside.tables.locks c.args.t.0)
