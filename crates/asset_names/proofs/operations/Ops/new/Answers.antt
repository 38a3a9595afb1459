use Rattle.std.proofs.Common.{rules}
use Rattle.asset_names.proofs.operations.Ops.new.Goals as goal

pub returns-then-write-clause-some : goal.returns-then-write-clause-some
returns-then-write-clause-some c = search rules

pub returns-then-write-clause-none : goal.returns-then-write-clause-none
returns-then-write-clause-none c = search rules

pub returns-else-write-clause-some : goal.returns-else-write-clause-some
returns-else-write-clause-some c = search rules

pub returns-else-write-clause-none : goal.returns-else-write-clause-none
returns-else-write-clause-none c = search rules

pub invariant_of-result : goal.invariant_of-result
invariant_of-result c = search rules
