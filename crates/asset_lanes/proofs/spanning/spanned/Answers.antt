use Rattle.std.proofs.Common.{rules}
use Rattle.asset_lanes.specs.Lanes.{spanned, is_known}
use Rattle.asset_lanes.proofs.spanning.spanned.Goals as goal

pub returns : goal.returns
unfolding spanned is_known
returns c = search rules
