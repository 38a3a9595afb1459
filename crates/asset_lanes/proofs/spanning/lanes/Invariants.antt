use Rattle.std.proofs.Common.{◌≡◌, take, map}
use Rattle.asset_lanes.specs.Lanes.{lane_of}
use Rattle.asset_lanes.proofs.spanning.lanes.Given as goal

-- the lanes so far are found
abbrev pub invariant-rows : goal.invariant-rows
invariant-rows l = l.lanes.items ≡ map (lane_of l.groups l.rows l.history.entries) (take l.t-index l.rows)
