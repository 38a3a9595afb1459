use Rattle.std.proofs.Common.{rules}
use Rattle.asset_name_groups.proofs.groups.NameGroups.len.Goals as goal

pub returns : goal.returns
returns c = search rules
