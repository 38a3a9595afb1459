use Rattle.std.proofs.Common.{◌≡◌, reverse, take}
use Rattle.asset_names.specs.Steps.{applied}
use Rattle.asset_reference.specs.Ways.{ways, enters}
use Rattle.asset_reference.proofs.endings.enters.Given as goal

-- what the entries so far say
abbrev pub invariant-entries : goal.invariant-entries
invariant-entries l = l.found ≡ enters (ways l.along (applied (reverse (take l.index l.entries)))) l.t.0
