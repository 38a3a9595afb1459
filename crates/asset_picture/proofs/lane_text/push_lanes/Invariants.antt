use Rattle.std.proofs.Common.{◌≡◌, ◌++◌, string_bytes, take}
use Rattle.asset_picture.specs.Picture.{lanes_text}
use Rattle.asset_picture.proofs.lane_text.push_lanes.Given as goal

-- the lanes so far are appended
abbrev pub invariant-lanes : goal.invariant-lanes
invariant-lanes l = string_bytes l.text ≡ string_bytes l.fn.text ++ lanes_text l.wide l.count (take l.lane-index l.lanes)
