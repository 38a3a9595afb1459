use Rattle.std.proofs.Common.{rules}
use Rattle.asset_lanes.specs.Arrows.{arrow_of}
use Rattle.asset_lanes.proofs.pointing.arrow_of.Goals as goal

pub returns-in-Done-reply : goal.returns-in-Done-reply
unfolding arrow_of
returns-in-Done-reply c = search rules
