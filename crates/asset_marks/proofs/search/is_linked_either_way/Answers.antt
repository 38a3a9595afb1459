use Rattle.std.proofs.Common.{rules}
use Rattle.asset_marks.proofs.search.is_linked_either_way.Goals as goal

pub returns-in-Some-is_linked_within-clause-is_linked : goal.returns-in-Some-is_linked_within-clause-is_linked
returns-in-Some-is_linked_within-clause-is_linked g c = search rules
