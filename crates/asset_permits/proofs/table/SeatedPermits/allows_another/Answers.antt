use Rattle.std.proofs.Common.{rules}
use Rattle.asset_permits.specs.Descriptors.{allows_by}
use Rattle.asset_permits.proofs.table.SeatedPermits.allows_another.Goals as goal

pub returns-then-leads-clause-allowed : goal.returns-then-leads-clause-allowed
unfolding allows_by
returns-then-leads-clause-allowed c = search rules

pub returns-else-leads-clause-allowed : goal.returns-else-leads-clause-allowed
unfolding allows_by
returns-else-leads-clause-allowed c = search rules
