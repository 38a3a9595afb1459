use Rattle.asset_name_groups.proofs.GroupLemmas.{has_none, none_weaker}
use Rattle.asset_name_groups.proofs.groups.NameGroups.find.Goals as goal

pub returns-clause-absent : goal.returns-clause-absent
returns-clause-absent c = rw (← c.self.view_is) (none_weaker c.find_name.result (has_none c.self.inside.names.items c.args.t) (rw c.deref.ensures.value at c.find_name.ensures.absent))
