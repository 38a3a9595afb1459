use Rattle.std.proofs.Common.{◌≡◌}
use Rattle.std.specs.List.{list_any}
use Rattle.asset_reference.specs.Owners.{operated_within}
use Rattle.asset_reference.specs.Scans.{is_on}
use Rattle.asset_reference.proofs.holding.has_operated.Given as goal

-- what the entries so far say
abbrev pub invariant-entries : goal.invariant-entries
invariant-entries l = l.found ≡ list_any (is_on l.t.0 l.x.0) (operated_within l.entries l.index)
