use Rattle.std.proofs.Common.{◌≡◌, take, reverse}
use Rattle.asset_lanes.specs.Arrows.{arrows_among}
use Rattle.asset_lanes.proofs.pointing.arrows_by.Given as goal

-- the arrows of the first entries are found
abbrev pub invariant-entries : goal.invariant-entries
invariant-entries l = l.found.items ≡ arrows_among l.groups l.rows l.history.entries (reverse (take l.i (reverse l.history.entries)))
