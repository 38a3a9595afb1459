use Rattle.asset_name_groups.proofs.GroupLemmas.{sound}
use Rattle.asset_name_groups.proofs.groups.NameGroups.laws.Goals as goal

pub returns : goal.returns
returns c = rw (← c.self.view_is) (sound _ _ _ _ _ _ _ _ c.self.invariant)
