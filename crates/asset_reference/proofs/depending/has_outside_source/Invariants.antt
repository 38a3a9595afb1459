use Rattle.std.proofs.Common.{◌≡◌, reverse, take}
use Rattle.asset_names.specs.Steps.{applied}
use Rattle.asset_reference.specs.Sources.{outside_within}
use Rattle.asset_reference.proofs.depending.has_outside_source.Given as goal

-- what the entries so far say
abbrev pub invariant-entries : goal.invariant-entries
invariant-entries l = l.outside ≡ outside_within (applied (reverse l.entries)) l.t.0 (applied (reverse (take l.index l.entries)))
