use Rattle.std.proofs.Common.{◌≡◌, take, reverse}
use Rattle.asset_lanes.specs.Marks.{marks}
use Rattle.asset_lanes.proofs.marking.marks.Given as goal

-- the marks of the first entries are found
abbrev pub invariant-entries : goal.invariant-entries
invariant-entries l = l.found.items ≡ marks l.groups l.rows (reverse (take l.i (reverse l.history.entries)))
