use Rattle.asset_queue.proofs.Eaches.{each_there}
use Rattle.asset_queue.proofs.work.run.Goals as goal

pub run_shared-requires-clause-from : goal.run_shared-requires-clause-from
run_shared-requires-clause-from g c κs within = each_there c.args.all.items
