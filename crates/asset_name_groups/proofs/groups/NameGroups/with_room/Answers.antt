use Rattle.std.proofs.Common.{rules}
use Rattle.asset_name_groups.proofs.groups.NameGroups.with_room.Goals as goal

pub reserved-requires : goal.reserved-requires
reserved-requires c = search rules
