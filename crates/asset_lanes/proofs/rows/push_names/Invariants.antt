use Rattle.std.proofs.Common.{◌≡◌, ◌++◌, take}
use Rattle.asset_lanes.specs.Lanes.{names_at}
use Rattle.asset_lanes.proofs.rows.push_names.Given as goal

-- the names so far are appended
abbrev pub invariant-members : goal.invariant-members
invariant-members l = l.rows.items ≡ l.fn.rows.items ++ names_at l.groups (take l.k-index l.indices)
