use Rattle.std.proofs.Common.{rules}
use Rattle.asset_queue.proofs.work.one.Goals as goal

pub returns-clause-taken : goal.returns-clause-taken
returns-clause-taken g c = search rules
