use Rattle.std.proofs.Common.{sym, ◌∙◌}
use Rattle.asset_chains.proofs.CrossedLemmas.{values_count}
use Rattle.asset_chains.proofs.crossed.Crossed.items.Goals as goal

pub returns : goal.returns
returns g c = rw (← c.self.view_is) (c.len.ensures ∙ sym (values_count c.self.inside.slots))
