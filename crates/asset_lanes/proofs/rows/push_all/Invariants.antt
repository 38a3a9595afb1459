use Rattle.std.proofs.Common.{◌≡◌, ◌++◌}
use Rattle.std.specs.Prelude.{flat_map}
use Rattle.std.specs.List.{range_with_len}
use Rattle.asset_lanes.specs.Lanes.{members_of}
use Rattle.asset_lanes.proofs.rows.push_all.Given as goal

-- the names of the groups so far are appended
abbrev pub invariant-groups : goal.invariant-groups
invariant-groups l = l.rows.items ≡ l.fn.rows.items ++ flat_map (members_of l.groups) (range_with_len 0 l.g)
