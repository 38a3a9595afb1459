use Rattle.std.proofs.Common.{◌≡◌, reverse, take}
use Rattle.std.specs.List.{list_all}
use Rattle.asset_names.specs.Steps.{applied, initiated}
use Rattle.asset_reference.specs.Sources.{completes}
use Rattle.asset_reference.proofs.depending.class_completed.Given as goal

-- what the entries so far say
abbrev pub invariant-entries : goal.invariant-entries
invariant-entries l = l.all ≡ list_all (completes (applied (reverse l.entries)) l.t.0) (initiated (applied (reverse (take l.index l.entries))))
