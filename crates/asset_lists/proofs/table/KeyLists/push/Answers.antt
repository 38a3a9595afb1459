use Rattle.std.proofs.Common.{rules}
use Rattle.asset_lists.proofs.table.KeyLists.push.Goals as goal

pub raise-requires : goal.raise-requires
raise-requires c = search rules
