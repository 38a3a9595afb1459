use Rattle.std.proofs.Common.{rules}
use Rattle.asset_core.proofs.facility.Core.open_distinct.Goals as goal

pub open_distinct-requires : goal.open_distinct-requires
open_distinct-requires c = search rules
