use Rattle.std.proofs.Common.{◌≡◌, take, map, reverse}
use Rattle.asset_lanes.specs.Uses.{asker_of}
use Rattle.asset_lanes.proofs.asking.askers.Given as goal

-- those who asked for the first entries are found
abbrev pub invariant-entries : goal.invariant-entries
invariant-entries l = l.found.items ≡ map (asker_of l.names.keys) (take l.i (reverse l.history.entries))
