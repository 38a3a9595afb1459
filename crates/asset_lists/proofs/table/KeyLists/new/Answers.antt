use Rattle.std.proofs.Common.{rules}
use Rattle.asset_lists.proofs.table.KeyLists.new.Goals as goal

pub invariant_of-result : goal.invariant_of-result
invariant_of-result c = search rules

pub returns-clause-parts : goal.returns-clause-parts
returns-clause-parts c = search rules
