use Rattle.std.proofs.lemmas.List.{get_or_read}
use Rattle.asset_name_groups.proofs.groups.NameGroups.name.Goals as goal

pub returns : goal.returns
returns c = rw (← c.self.view_is) (get_or_read c.self.inside.names.items c.args.node c.index.result.now (rw (← c.self.view_is) at c.requires) c.index.ensures 0)
