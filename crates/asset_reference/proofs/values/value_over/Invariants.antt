use Rattle.std.proofs.Common.{◌≡◌, reverse}
use Rattle.asset_names.specs.Steps.{applied}
use Rattle.asset_names.specs.Operations.{stands, value_after}
use Rattle.asset_reference.specs.Owners.{operated_within}
use Rattle.asset_reference.proofs.values.value_over.Given as goal

-- what the entries so far make of the first value
abbrev pub invariant-entries : goal.invariant-entries
invariant-entries l = l.now ≡ value_after (stands (applied (reverse l.entries))) l.x.0 l.fn.first (operated_within l.entries l.index)
