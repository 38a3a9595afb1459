use Rattle.std.proofs.Common.{◌≡◌, ◌+◌, drop}
use Rattle.asset_lanes.specs.Lanes.{row_of}
use Rattle.asset_lanes.proofs.rows.row_of.Given as goal

-- the row is not among the first ones
abbrev pub invariant-rows : goal.invariant-rows
invariant-rows l = row_of l.rows l.t.0 ≡ l.k + row_of (drop l.k l.rows) l.t.0
