use Rattle.std.proofs.Common.{rules}
use Rattle.asset_arguments.proofs.parsing.requested.Goals as goal

pub returns-in-Err : goal.returns-in-Err
returns-in-Err c = search rules
