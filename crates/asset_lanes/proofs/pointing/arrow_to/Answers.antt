use Rattle.std.proofs.Common.{rules}
use Rattle.asset_lanes.specs.Arrows.{arrow_to}
use Rattle.asset_lanes.proofs.pointing.arrow_to.Goals as goal

pub returns : goal.returns
unfolding arrow_to
returns c = search rules
