use Rattle.std.proofs.Common.{◌≡◌, reverse, take}
use Rattle.asset_names.specs.Steps.{applied}
use Rattle.asset_reference.specs.Ways.{ways, leaves}
use Rattle.asset_reference.proofs.endings.leaves.Given as goal

-- what the entries so far say
abbrev pub invariant-entries : goal.invariant-entries
invariant-entries l = l.found ≡ leaves (ways l.along (applied (reverse (take l.index l.entries)))) l.u.0
