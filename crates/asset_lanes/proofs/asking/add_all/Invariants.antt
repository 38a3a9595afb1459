use Rattle.std.proofs.Common.{◌≡◌, drop}
use Rattle.asset_lanes.specs.Uses.{with_names}
use Rattle.asset_lanes.proofs.asking.add_all.Given as goal

-- the names with those that are left are all of them
abbrev pub invariant-rows : goal.invariant-rows
invariant-rows l = with_names l.names.keys (drop l.n-index l.rows) ≡ with_names l.fn.names.keys l.rows
