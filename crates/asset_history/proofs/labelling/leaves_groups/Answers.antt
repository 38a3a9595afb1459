use Rattle.std.proofs.Common.{rules}
use Rattle.asset_history.proofs.labelling.leaves_groups.Goals as goal

pub returns-then-is_of_known : goal.returns-then-is_of_known
returns-then-is_of_known c = search rules
