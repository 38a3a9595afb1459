use Rattle.std.proofs.Common.{◌≡◌, reverse}
use Rattle.std.specs.List.{list_any}
use Rattle.asset_names.specs.Steps.{applied}
use Rattle.asset_names.specs.Operations.{blocks}
use Rattle.asset_reference.specs.Owners.{operated_within}
use Rattle.asset_reference.proofs.freedom.is_free.Given as goal

-- what the entries so far say
abbrev pub invariant-entries : goal.invariant-entries
invariant-entries l = l.blocked ≡ list_any (blocks (applied (reverse l.entries)) l.t.0 l.x.0 l.op) (operated_within l.entries l.index)
