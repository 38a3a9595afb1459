use Rattle.std.proofs.Common.{rules}
use Rattle.asset_queue.proofs.work.run_alone.Goals as goal

pub returns-clause-once : goal.returns-clause-once
returns-clause-once g c = search rules
