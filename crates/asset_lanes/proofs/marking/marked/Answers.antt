use Rattle.std.proofs.Common.{rules}
use Rattle.asset_lanes.specs.Marks.{marked}
use Rattle.asset_lanes.proofs.marking.marked.Goals as goal

pub returns : goal.returns
unfolding marked
returns c = search rules
